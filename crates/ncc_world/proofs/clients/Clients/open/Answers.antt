use Rattle.std.proofs.Common.{◌≡◌, ◌∙◌, ◌+◌, ◌-◌, ◌<◌, ◌++◌, ◌∷◌, [], ℕ, List, None, false, nat_eq, length, ap, sym, subst, arith, refl}
use Rattle.std.proofs.lemmas.Result.{on_ok_weaker}
use Rattle.std.proofs.lemmas.List.{length-append, length-map}
use Rattle.std.specs.Prelude.{slice_set}
use Rattle.indexmap.specs.IndexSet.{keys as set_keys}
use Rattle.std.proofs.lemmas.Map.Entries.{length-values_of}
use Rattle.std.specs.Map.{keys_of, values_of}
use Rattle.indexmap.specs.IndexMap.{get, values}
use Rattle.indexmap.proofs.CallerLemmas.{insert_entry-new}
use Rattle.ncc_session.specs.declared.config.ConnConfig.{ConnConfig}
use Rattle.ncc_session.specs.Talk.{Stands as TalkStands}
use Rattle.ncc_world.specs.Setting.{lists_of}
use Rattle.ncc_world.specs.declared.seen.ConnSeen.{ConnSeen}
use Rattle.ncc_world.specs.declared.served.Served.{Served}
use Rattle.ncc_world.specs.World.{AreServed}
use Rattle.ncc_world.specs.Parts.{clients_in, numbers_in}
use Rattle.ncc_world.proofs.Keeping.{clients_count}
use Rattle.ncc_world.proofs.Opening.{IsNew, fresh, shown, opened_one}
use Rattle.ncc_world.proofs.Tables.{absent, keys_more, map_at, map_set, values_more}
use Rattle.ncc_world.proofs.clients.Clients.open.Goals as goal

pub returns-clause-more : goal.returns-clause-more
returns-clause-more c = on_ok_weaker c.push.result (λ e.
    let k = c.requires.served in
    let m = c.args.self.now.table in
    let n = c.len.result + 1 in
    let counts = clients_count k.setup _ _ k.clients k.are.each in
    let new : get nat_eq m n ≡ None =
    absent n 1 m.entries k.clients k.are.keyed k.are.numbered (omega (arith, c.len.ensures.len, counts.table, length-values_of m.entries)) in
    let es = c.in_ok-insert.ensures.entries ∙ insert_entry-new nat_eq m n _ new in
    ap (λ l. length (values_of l)) es ∙ ap length (values_more m.entries n _) ∙ length-append (values m) _) c.push.ensures.ok

pub returns-clause-ok : goal.returns-clause-ok
returns-clause-ok c = on_ok_weaker c.push.result (λ e r are now_is bounds.
    let k = clients_in c.args.self.now in
    let m = c.args.self.now.table in
    let n = c.len.result + 1 in
    let v : Served = record { conn = c.in_ok-conn.conn; since = c.args.now; placing = None; closed = false } in
    let counts = clients_count c.args.setup.now k.table k.seen r.clients are.each in
    let numbered : n ≡ length r.clients + 1 = omega (arith, c.len.ensures.len, counts.table, length-values_of m.entries) in
    let absent_is : get nat_eq m n ≡ None = absent n 1 m.entries r.clients are.keyed are.numbered (omega (arith, numbered)) in
    let es = c.in_ok-insert.ensures.entries ∙ insert_entry-new nat_eq m n v absent_is in
    let new : IsNew c.args.setup.now v n c.args.now = record {
      talk = subst (λ (x : ConnConfig). TalkStands c.in_ok-conn.conn x [] [] []) c.in_ok-config.ensures.config c.in_ok-conn.ensures.made;
      since = refl;
      placing = refl;
      closed = refl;
    } in
    let lives = c.args.self.now.live.items in
    let at = c.args.member - 1 in
    let was = c.index_mut-live.result.now in
    let within : at < length lives = omega (arith, bounds.0, bounds.1, are.live_count, length-map lives set_keys) in
    let now_live = slice_set (numbers_in lives) at (set_keys c.mark.new.live) in
    let one = opened_one c.args.setup.now (length (lists_of r.members)) k r.clients v n c.args.member c.args.now c.args.printed
    (set_keys c.mark.new.live) (set_keys was) are numbered bounds.0 bounds.1 new
    (map_at set_keys lives at was within c.index_mut-live.ensures.value) c.in_ok-mark.ensures.ok in
    let seen : c.push.new.self ≡ k.seen ++ (shown n c.args.member c.args.printed ∷ []) =
    e ∙ ap (λ (out : List ℕ). k.seen ++ (record {
      conn = n;
      member = c.args.member;
      waiting = false;
      ended = false;
      printed = c.args.printed;
      out = out;
    } ∷ [])) c.new-2.ensures.empty in
    let keys_are : keys_of c.insert.new.self.entries ≡ k.numbers ++ (n ∷ []) = ap keys_of es ∙ keys_more m.entries n v in
    let values_are : values_of c.insert.new.self.entries ≡ k.table ++ (v ∷ []) = ap values_of es ∙ values_more m.entries n v in
    subst (λ (x : List (List ℕ)). AreServed c.args.setup.now (length (lists_of r.members)) (record {
      numbers = keys_of c.insert.new.self.entries;
      table = values_of c.insert.new.self.entries;
      seen = c.push.new.self;
      rooms = k.rooms;
      live = x;
    }) (r.clients ++ (fresh (length r.clients + 1) c.args.member r.now c.args.printed ∷ []))) (sym (map_set set_keys lives at c.mark.new.live))
    (subst (λ (x : List ℕ). AreServed c.args.setup.now (length (lists_of r.members))
    (record { numbers = x; table = values_of c.insert.new.self.entries; seen = c.push.new.self; rooms = k.rooms; live = now_live })
    (r.clients ++ (fresh (length r.clients + 1) c.args.member r.now c.args.printed ∷ []))) (sym keys_are)
    (subst (λ (x : List Served). AreServed c.args.setup.now (length (lists_of r.members))
    (record { numbers = k.numbers ++ (n ∷ []); table = x; seen = c.push.new.self; rooms = k.rooms; live = now_live })
    (r.clients ++ (fresh (length r.clients + 1) c.args.member r.now c.args.printed ∷ []))) (sym values_are)
    (subst (λ (x : List ConnSeen). AreServed c.args.setup.now (length (lists_of r.members))
    (record { numbers = k.numbers ++ (n ∷ []); table = k.table ++ (v ∷ []); seen = x; rooms = k.rooms; live = now_live })
    (r.clients ++ (fresh (length r.clients + 1) c.args.member r.now c.args.printed ∷ []))) (sym seen)
    (subst (λ (i : ℕ). AreServed c.args.setup.now (length (lists_of r.members)) (record {
      numbers = k.numbers ++ (n ∷ []);
      table = k.table ++ (v ∷ []);
      seen = k.seen ++ (shown n c.args.member c.args.printed ∷ []);
      rooms = k.rooms;
      live = now_live;
    }) (r.clients ++ (fresh i c.args.member r.now c.args.printed ∷ []))) numbered
    (subst (λ (i : ℕ). AreServed c.args.setup.now (length (lists_of r.members)) (record {
      numbers = k.numbers ++ (n ∷ []);
      table = k.table ++ (v ∷ []);
      seen = k.seen ++ (shown n c.args.member c.args.printed ∷ []);
      rooms = k.rooms;
      live = now_live;
    }) (r.clients ++ (fresh n c.args.member i c.args.printed ∷ []))) now_is one)))))) c.push.ensures.ok
