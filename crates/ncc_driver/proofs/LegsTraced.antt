-- What actions leave of what was sent on a link, and the requests of a work's steps.
use Rattle.std.proofs.Common.{◌≡◌, inl, inr, ℕ, Bool, true, List, [], ◌∷◌, ◌++◌}
use Rattle.std.proofs.Common.{refl, sym, ap, ◌∙◌, subst, append_assoc, append-nil}
use Rattle.std.specs.Prelude.{IsTrue}
use Rattle.std.proofs.lemmas.List.{map-append}
use Rattle.ncc_pack.specs.declared.value.Value.{Value}
use Rattle.ncc_bolt.specs.Fields.{Pairs}
use Rattle.ncc_bolt.specs.declared.message.Request.{Request}
use Rattle.ncc_bolt.specs.declared.message.Request.TheVariants as r
use Rattle.ncc_route.specs.declared.auth.Auth.{Auth}
use Rattle.ncc_driver.specs.declared.action.Action.{Action}
use Rattle.ncc_driver.specs.declared.action.Action.TheVariants.{Connect, Send, Finish}
use Rattle.ncc_driver.specs.declared.work.WorkStep.{WorkStep}
use Rattle.ncc_driver.specs.declared.work.WorkStep.TheVariants as w
use Rattle.ncc_driver.specs.Work.{Row, Job}
use Rattle.ncc_driver.specs.Requests.{shake_bytes, hello, begin, run, pull}
use Rattle.ncc_driver.specs.LawsLegs.{routing_leg, step_asked, steps_asked, working_leg, IsPart, wire, on_link}
use Rattle.ncc_driver.specs.LawsLegs.{IsLeg, Silent, Routes, Works}
use Rattle.ncc_driver.specs.LawsLegs.{sends, opens_none, sent_since}
use Rattle.ncc_driver.specs.LawsFits.{HaveSpelling, AllFit, IsFitLeg}
use Rattle.ncc_bolt.specs.Writing.{fits_request}

-- ---- what was sent on the link of now

pub record Trace : Type 0 where
  pub address : List ℕ
  pub sent : List (List ℕ)
  -- there was a Connect
  pub joined : Bool
  -- the work has ended
  pub over : Bool

abbrev pub traced : Trace → Action → Trace
traced t (Connect address) = record { address = address; sent = []; joined = true; over = t.over }
traced t (Send bytes) = record { address = t.address; sent = t.sent ++ bytes ∷ []; joined = t.joined; over = t.over }
traced t (Finish end) = record { address = t.address; sent = t.sent; joined = t.joined; over = true }
traced t _ = t

abbrev pub traced_all : Trace → List Action → Trace
traced_all t [] = t
traced_all t (action ∷ actions) = traced_all (traced t action) actions

pub traced_on : (t : Trace) (xs ys : List Action) → traced_all t (xs ++ ys) ≡ traced_all (traced_all t xs) ys
traced_on t [] ys = refl
traced_on t (x ∷ xs) ys = traced_on (traced t x) xs ys

pub over_on : (t : Trace) (xs : List Action) → t.over ≡ true → (traced_all t xs).over ≡ true
over_on t [] e = e
over_on t (Connect address ∷ xs) e = over_on _ xs e
over_on t (Send bytes ∷ xs) e = over_on _ xs e
over_on t (Finish end ∷ xs) e = over_on _ xs refl
over_on t (_ ∷ xs) e = over_on t xs e

pub sent_is : (t : Trace) (xs : List Action) → (traced_all t xs).sent ≡ sent_since t.sent xs
sent_is t [] = refl
sent_is t (Connect address ∷ xs) = sent_is _ xs
sent_is t (Send bytes ∷ xs) = sent_is _ xs
sent_is t (Finish end ∷ xs) = sent_is _ xs
sent_is t (_ ∷ xs) = sent_is t xs

sends_more : (t : Trace) (xs : List Action) → IsTrue (opens_none xs) → (traced_all t xs).sent ≡ t.sent ++ sends xs
sends_more t [] n = sym (append-nil t.sent)
sends_more t (Connect address ∷ xs) n = absurd (cc)
sends_more t (Send bytes ∷ xs) n = sends_more _ xs n ∙ append_assoc t.sent (bytes ∷ []) (sends xs)
sends_more t (Finish end ∷ xs) n = sends_more _ xs n
sends_more t (_ ∷ xs) n = sends_more t xs n

address_same : (t : Trace) (xs : List Action) → IsTrue (opens_none xs) → (traced_all t xs).address ≡ t.address
address_same t [] n = refl
address_same t (Connect address ∷ xs) n = absurd (cc)
address_same t (Send bytes ∷ xs) n = address_same _ xs n
address_same t (Finish end ∷ xs) n = address_same _ xs n
address_same t (_ ∷ xs) n = address_same t xs n

abbrev pub joins_to : Trace → List ℕ → Trace
joins_to t address = record { address = address; sent = []; joined = true; over = t.over }

pub leg_is : (t : Trace) (front leg : List Action) (address : List ℕ) → IsTrue (opens_none leg)
    → let u = traced_all t (front ++ Connect address ∷ leg) in (u.sent ≡ sends leg) × (u.address ≡ address)
leg_is t front leg address n =
    let e = traced_on t front (Connect address ∷ leg) in
    let u = traced_all t front in (
      ap (λ (x : Trace). x.sent) e ∙ sends_more (joins_to u address) leg n,
      ap (λ (x : Trace). x.address) e ∙ address_same (joins_to u address) leg n,
    )

-- ---- requests on a link

pub on_link_more : (requests : List Request) (request : Request)
    → on_link requests ++ wire request ∷ [] ≡ on_link (requests ++ request ∷ [])
on_link_more requests request = ap (λ (x : List (List ℕ)). shake_bytes ∷ x) (sym (map-append wire requests (request ∷ [])))

pub sent_more : (sent : List (List ℕ)) (requests : List Request) (request : Request) → sent ≡ on_link requests
    → sent ++ wire request ∷ [] ≡ on_link (requests ++ request ∷ [])
sent_more sent requests request e = ap (λ (x : List (List ℕ)). x ++ wire request ∷ []) e ∙ on_link_more requests request

pub both_fit : (xs ys : List Request) → HaveSpelling xs → HaveSpelling ys → HaveSpelling (xs ++ ys)
both_fit [] ys h k = k
both_fit (x ∷ xs) ys h k = (h.0, both_fit xs ys h.1 k)

pub one_more : (xs : List Request) (y : Request) → HaveSpelling xs → IsTrue (fits_request y) → HaveSpelling (xs ++ y ∷ [])
one_more xs y h k = both_fit xs (y ∷ []) h (k, tt)

module _ (auth : Auth) (address : List ℕ) (given : List Value) (job : Job) where
  -- It is a leg, and its requests have a spelling where what they are made of has one.
  pub record Sound (sent : List (List ℕ)) : Type 0 where
    pub leg : IsLeg auth address given job sent
    pub fit : AllFit auth address given job → IsFitLeg auth address given job sent

  -- It is sound, and so with GOODBYE behind.
  pub record Closes (sent : List (List ℕ)) : Type 0 where
    pub leg : Sound sent
    pub closed : Sound (sent ++ wire r.Goodbye ∷ [])

  part : (requests rest whole : List Request) → whole ≡ requests ++ rest → IsPart requests whole
  part requests rest whole e = record { front = requests; rest = rest; split = e; is = inl refl }

  closed_part : (requests rest whole : List Request) → whole ≡ requests ++ rest → IsPart (requests ++ r.Goodbye ∷ []) whole
  closed_part requests rest whole e = record { front = requests; rest = rest; split = e; is = inr refl }

  routed : (sent : List (List ℕ)) (requests : List Request) → sent ≡ on_link requests → IsPart requests (routing_leg auth address)
      → (AllFit auth address given job → HaveSpelling requests) → Sound sent
  routed sent requests s p f = record {
    leg = subst (λ (x : List (List ℕ)). IsLeg auth address given job x) (sym s) (Routes requests p);
    fit = λ all. record { requests = requests; fit = f all; leg = inl p; sent_is = inr s };
  }

  worked : (sent : List (List ℕ)) (requests : List Request) (told : List (List Row)) → sent ≡ on_link requests
      → IsPart requests (working_leg auth address given job told) → (AllFit auth address given job → HaveSpelling requests) → Sound sent
  worked sent requests told s p f = record {
    leg = subst (λ (x : List (List ℕ)). IsLeg auth address given job x) (sym s) (Works requests told p);
    fit = λ all. record { requests = requests; fit = f all; leg = inr (told, p); sent_is = inr s };
  }

  pub silent : Sound []
  silent = record {
    leg = Silent;
    fit = λ all. record { requests = []; fit = tt; leg = inl (part [] (routing_leg auth address) _ refl); sent_is = inl refl };
  }

  pub routes : (sent : List (List ℕ)) (requests rest : List Request) → sent ≡ on_link requests
      → routing_leg auth address ≡ requests ++ rest → (AllFit auth address given job → HaveSpelling requests) → Closes sent
  routes sent requests rest s e f = record {
    leg = routed sent requests s (part requests rest _ e) f;
    closed = routed (sent ++ wire r.Goodbye ∷ []) (requests ++ r.Goodbye ∷ []) (sent_more sent requests r.Goodbye s)
        (closed_part requests rest _ e) (λ all. one_more requests r.Goodbye (f all) refl);
  }

  pub works : (sent : List (List ℕ)) (requests rest : List Request) (told : List (List Row)) → sent ≡ on_link requests
      → working_leg auth address given job told ≡ requests ++ rest → (AllFit auth address given job → HaveSpelling requests) → Closes sent
  works sent requests rest told s e f = record {
    leg = worked sent requests told s (part requests rest _ e) f;
    closed = worked (sent ++ wire r.Goodbye ∷ []) (requests ++ r.Goodbye ∷ []) told (sent_more sent requests r.Goodbye s)
        (closed_part requests rest _ e) (λ all. one_more requests r.Goodbye (f all) refl);
  }

-- ---- the requests of steps

module _ (job : Job) where
  -- Behind some rows, steps that all ran told these, and asked this.
  abbrev pub Ran : List (List Row) → List (List Row) → List Request → Type 0
  Ran told [] requests = requests ≡ []
  Ran told (rows ∷ more) requests =
      (query : List ℕ) × (params : Pairs) × (rest : List Request) × (job.steps told ≡ w.Run query params)
      × (requests ≡ run query params ∷ pull ∷ rest) × Ran (told ++ rows ∷ []) more rest

  abbrev asked_at : List Request → List (List Row) → List Request
  asked_at requests told = requests ++ step_asked (job.steps told) []

  pub ran_asked : (told more : List (List Row)) (requests : List Request) → Ran told more requests
      → steps_asked job told more ≡ asked_at requests (told ++ more)
  ran_asked told [] requests h =
      ap (λ (x : List (List Row)). step_asked (job.steps x) []) (sym (append-nil told))
      ∙ sym (ap (λ (x : List Request). asked_at x (told ++ [])) h)
  ran_asked told (rows ∷ more) requests (query, params, rest, s, e, k) =
      ap (λ (x : WorkStep). step_asked x (steps_asked job (told ++ rows ∷ []) more)) s
      ∙ ap (λ (x : List Request). run query params ∷ pull ∷ x) (ran_asked (told ++ rows ∷ []) more rest k)
      ∙ ap (λ (x : List (List Row)). run query params ∷ pull ∷ asked_at rest x) (append_assoc told (rows ∷ []) more)
      ∙ sym (ap (λ (x : List Request). asked_at x (told ++ rows ∷ more)) e)

  pub ran_more : (told more : List (List Row)) (requests : List Request) (rows : List Row) (query : List ℕ) (params : Pairs)
      → Ran told more requests → job.steps (told ++ more) ≡ w.Run query params
      → Ran told (more ++ rows ∷ []) (requests ++ run query params ∷ pull ∷ [])
  ran_more told [] requests rows query params h s = (
    query,
    params,
    [],
    ap job.steps (sym (append-nil told)) ∙ s,
    ap (λ (x : List Request). x ++ run query params ∷ pull ∷ []) h,
    refl,
  )
  ran_more told (first ∷ more) requests rows query params (q, p, rest, t, e, k) s = (
    q,
    p,
    rest ++ run query params ∷ pull ∷ [],
    t,
    ap (λ (x : List Request). x ++ run query params ∷ pull ∷ []) e,
    ran_more (told ++ first ∷ []) more rest rows query params k (ap job.steps (append_assoc told (first ∷ []) more) ∙ s),
  )

  -- steps that ran, and a front of what is asked next
  pub steps_part : (auth : Auth) (address : List ℕ) (given : List Value) (told : List (List Row)) (requests : List Request)
      (step : WorkStep) (last rest : List Request) → Ran [] told requests → job.steps told ≡ step → step_asked step [] ≡ last ++ rest
      → working_leg auth address given job told ≡ (hello auth address ∷ begin given job.writes ∷ requests ++ last) ++ rest
  steps_part auth address given told requests step last rest h s e =
      ap (λ (x : List Request). hello auth address ∷ begin given job.writes ∷ x)
      (ran_asked [] told requests h ∙ ap (λ (x : WorkStep). requests ++ step_asked x []) s ∙ ap (λ (x : List Request). requests ++ x) e
      ∙ sym (append_assoc requests last rest))
