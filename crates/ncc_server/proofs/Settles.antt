-- Questions answered one after another.
use Rattle.std.proofs.Common.{◌≡◌, ◌⊎◌, inl, inr, ℕ, None, List, [], ◌∷◌, ◌++◌, take, refl, sym, ap, ◌∙◌, subst, append_assoc, append-nil}
use Rattle.ncc_session.specs.declared.config.ConnConfig.{ConnConfig}
use Rattle.ncc_session.specs.Talk.{Talk, asked, Feeds, FeedBreaks}
use Rattle.ncc_server.specs.declared.serving.Broken.{Broken}
use Rattle.ncc_server.specs.declared.serving.Broken.TheVariants as broken
use Rattle.ncc_server.specs.Answered.{Answer}
use Rattle.ncc_server.specs.Live.{Live, IsLive, Going, Settled, Unsettled, GivenUp, Handed, HandedSome, AnsweredOne, AskedNone}
use Rattle.ncc_server.specs.Live.{NoAnswer, NotTaken}
use Rattle.ncc_server.proofs.Alive.{live_handed, live_answered, live_fed}
use Rattle.ncc_server.proofs.Given.{unfinished, given_handed, given_none, given_not_taken, given_fed}

-- the same with nothing behind, and with lists joined otherwise
live_as : (config : ConnConfig) (wait : ℕ) (r r' w w' : List ℕ) (a a' : List Answer) (m m' : List ℕ) (talk : Talk) → r ≡ r' → w ≡ w'
    → a ≡ a' → m ≡ m'
    → Live config wait r w a m talk → Live config wait r' w' a' m' talk
live_as config wait r r' w w' a a' m m' talk e f g h k =
    subst (λ (x : List ℕ). Live config wait x w' a' m' talk) e
    (subst (λ (x : List ℕ). Live config wait r x a' m' talk) f
    (subst (λ (x : List Answer). Live config wait r w x m' talk) g (subst (λ (x : List ℕ). Live config wait r w a x talk) h k)))

given_as : (config : ConnConfig) (wait : ℕ) (r r' w w' : List ℕ) (a a' : List Answer) (m m' : List ℕ) (b : Broken) → r ≡ r' → w ≡ w'
    → a ≡ a' → m ≡ m'
    → GivenUp config wait r w a m b → GivenUp config wait r' w' a' m' b
given_as config wait r r' w w' a a' m m' b e f g h k =
    subst (λ (x : List ℕ). GivenUp config wait x w' a' m' b) e
    (subst (λ (x : List ℕ). GivenUp config wait r x a' m' b) f
    (subst (λ (x : List Answer). GivenUp config wait r w x m' b) g (subst (λ (x : List ℕ). GivenUp config wait r w a x b) h k)))

-- nothing was done yet
pub begins : (wait : ℕ) (took : List ℕ → Type 0) (told : List Answer → Type 0) (ticked : List ℕ
    → Type 0) (same flushed : Type 0) (talk : Talk)
    → took [] → told [] → ticked [] → same → Going wait took told ticked same flushed [] talk talk
begins wait took told ticked same flushed talk a b c s = record {
  went = record { bytes = []; answers = []; moments = []; took_it = a; told_it = b; ticked_it = c };
  live = λ config read wrote answers moments k.
      live_as config wait read (read ++ []) wrote (wrote ++ []) answers (answers ++ []) moments (moments ++ []) talk
      (sym (append-nil read)) (sym (append-nil wrote)) (sym (append-nil answers)) (sym (append-nil moments)) k;
  is_flushed = inl (refl, s);
}

both_none : (x y : List ℕ) → x ≡ [] → y ≡ [] → x ++ y ≡ []
both_none x y e f = ap (λ (z : List ℕ). z ++ y) e ∙ f

module _ (wait : ℕ) (took took1 took2 : List ℕ → Type 0) (told : List Answer → Type 0) (ticked : List ℕ → Type 0)
    (same flushed same1 flushed1 same2 : Type 0) (piece : List ℕ) where
  flushed_on : (bytes more : List ℕ) → (same → same1 → same2) → (same1 → flushed → flushed1)
      → ((bytes ≡ []) × same) ⊎ flushed → ((more ≡ []) × same1) ⊎ flushed1 → ((bytes ++ more ≡ []) × same2) ⊎ flushed1
  flushed_on bytes more s c a (inr h) = inr h
  flushed_on bytes more s c (inl e) (inl h) = inl (both_none bytes more e.0 h.0, s e.1 h.1)
  flushed_on bytes more s c (inr o) (inl h) = inr (c h.1 o)

  -- what was written was handed out
  pub on_handed : (old mid new : Talk) → Going wait took told ticked same flushed piece old mid → Handed took1 same1 flushed1 mid new
      → ((x y : List ℕ) → took x → took1 y → took2 (x ++ y)) → (same → same1 → same2) → (same1 → flushed → flushed1)
      → Going wait took2 told ticked same2 flushed1 piece old new
  on_handed old mid new g h b s c = record {
    went = record {
      bytes = g.went.bytes ++ mid.out;
      answers = g.went.answers;
      moments = g.went.moments;
      took_it = b g.went.bytes mid.out g.went.took_it h.took_it;
      told_it = g.went.told_it;
      ticked_it = g.went.ticked_it;
    };
    live = λ config read wrote answers moments k.
        live_as config wait (read ++ piece) (read ++ piece) ((wrote ++ g.went.bytes) ++ mid.out) (wrote ++ (g.went.bytes ++ mid.out)) _
        _ _ _ new
        refl (append_assoc wrote g.went.bytes mid.out) refl refl
        (live_handed config wait (read ++ piece) (wrote ++ g.went.bytes) (answers ++ g.went.answers) (moments ++ g.went.moments) mid new
        h.rest
        (g.live config read wrote answers moments k));
    is_flushed = flushed_on g.went.bytes mid.out s c g.is_flushed h.is_flushed;
  }

module _ (wait : ℕ) (took : List ℕ → Type 0) (told told1 told2 : List Answer → Type 0) (ticked ticked1 ticked2 : List ℕ → Type 0)
    (same flushed : Type 0) (piece : List ℕ) where
  -- a question was answered
  pub on_answered : (old mid new : Talk) → Going wait took told ticked same flushed piece old mid
      → (a : AnsweredOne wait told1 ticked1 mid new)
      → ((x y : List Answer) → told x → told1 y → told2 (x ++ y)) → ((x y : List ℕ) → ticked x → ticked1 y → ticked2 (x ++ y))
      → Going wait took told2 ticked2 same flushed piece old new
  on_answered old mid new g a b c = record {
    went = record {
      bytes = g.went.bytes;
      answers = g.went.answers ++ a.answer ∷ [];
      moments = g.went.moments ++ a.now ∷ [];
      took_it = g.went.took_it;
      told_it = b g.went.answers (a.answer ∷ []) g.went.told_it a.told_it;
      ticked_it = c g.went.moments (a.now ∷ []) g.went.ticked_it a.ticked_it;
    };
    live = λ config read wrote answers moments k.
        live_as config wait (read ++ piece) (read ++ piece) (wrote ++ g.went.bytes) (wrote ++ g.went.bytes)
        ((answers ++ g.went.answers) ++ a.answer ∷ []) (answers ++ (g.went.answers ++ a.answer ∷ []))
        ((moments ++ g.went.moments) ++ a.now ∷ []) (moments ++ (g.went.moments ++ a.now ∷ [])) new
        refl refl (append_assoc answers g.went.answers (a.answer ∷ [])) (append_assoc moments g.went.moments (a.now ∷ []))
        (live_answered config wait (read ++ piece) (wrote ++ g.went.bytes) (answers ++ g.went.answers) (moments ++ g.went.moments) told1
        ticked1 mid new a
        (g.live config read wrote answers moments k));
    is_flushed = g.is_flushed;
  }

  -- no question waits, and all was handed out
  pub on_none : (old mid new : Talk) → Going wait took told ticked same flushed piece old mid → mid.out ≡ [] → IsLive mid
      → (a : AskedNone told1 ticked1 mid new)
      → ((x y : List Answer) → told x → told1 y → told2 (x ++ y)) → ((x y : List ℕ) → ticked x → ticked1 y → ticked2 (x ++ y))
      → Settled wait took told2 ticked2 same flushed piece old new
  on_none old mid new g h l a b c = record {
    going = subst (Going wait took told2 ticked2 same flushed piece old) (sym a.same) (record {
      went = record {
        bytes = g.went.bytes;
        answers = g.went.answers ++ [];
        moments = g.went.moments ++ [];
        took_it = g.went.took_it;
        told_it = b g.went.answers [] g.went.told_it a.told_it;
        ticked_it = c g.went.moments [] g.went.ticked_it a.ticked_it;
      };
      live = λ config read wrote answers moments k.
          live_as config wait (read ++ piece) (read ++ piece) (wrote ++ g.went.bytes) (wrote ++ g.went.bytes)
          (answers ++ g.went.answers) (answers ++ (g.went.answers ++ [])) (moments ++ g.went.moments) (moments ++ (g.went.moments ++
          [])) mid
          refl refl (ap (λ (x : List Answer). answers ++ x) (sym (append-nil g.went.answers))) (ap (λ (x : List ℕ). moments ++ x) (sym
          (append-nil g.went.moments)))
          (g.live config read wrote answers moments k);
      is_flushed = g.is_flushed;
    });
    handed = ap (λ (t : Talk). t.out) a.same ∙ h;
    none = ap (λ (t : Talk). asked t) a.same ∙ a.none;
    is_live = subst IsLive (sym a.same) l;
  }

  -- it got no answer

  pub up_none : (old mid : Talk) (b : Broken) → (g : Going wait took told ticked same flushed piece old mid) → mid.out ≡ []
      → (n : NoAnswer told1 ticked1 mid b)
      → ((x y : List Answer) → told x → told1 y → told2 (x ++ y)) → ((x y : List ℕ) → ticked x → ticked1 y → ticked2 (x ++ y))
      → Unsettled wait took told2 ticked2 same flushed piece old b
  up_none old mid b g e n c d = record {
    went = record {
      bytes = g.went.bytes;
      answers = g.went.answers ++ [];
      moments = g.went.moments ++ n.now ∷ [];
      took_it = g.went.took_it;
      told_it = c g.went.answers [] g.went.told_it n.told_it;
      ticked_it = d g.went.moments (n.now ∷ []) g.went.ticked_it n.ticked_it;
    };
    given_up = λ config read wrote answers moments k.
        given_as config wait (read ++ piece) (read ++ piece) (wrote ++ g.went.bytes) (wrote ++ g.went.bytes)
        (answers ++ g.went.answers) (answers ++ (g.went.answers ++ []))
        ((moments ++ g.went.moments) ++ n.now ∷ []) (moments ++ (g.went.moments ++ n.now ∷ [])) b
        refl refl (ap (λ (x : List Answer). answers ++ x) (sym (append-nil g.went.answers))) (append_assoc moments g.went.moments (n.now
        ∷ []))
        (given_none config wait (read ++ piece) (wrote ++ g.went.bytes) (answers ++ g.went.answers) (moments ++ g.went.moments) told1
        ticked1 mid b e n
        (g.live config read wrote answers moments k));
    is_flushed = λ h. g.is_flushed;
  }

  pub up_not_taken : (old mid new : Talk) (b : Broken) → (g : Going wait took told ticked same flushed piece old mid)
      → (n : NotTaken wait told1 ticked1 mid new b)
      → ((x y : List Answer) → told x → told1 y → told2 (x ++ y)) → ((x y : List ℕ) → ticked x → ticked1 y → ticked2 (x ++ y))
      → Unsettled wait took told2 ticked2 same flushed piece old b
  up_not_taken old mid new b g n c d = record {
    went = record {
      bytes = g.went.bytes;
      answers = g.went.answers ++ n.answer ∷ [];
      moments = g.went.moments ++ n.now ∷ [];
      took_it = g.went.took_it;
      told_it = c g.went.answers (n.answer ∷ []) g.went.told_it n.told_it;
      ticked_it = d g.went.moments (n.now ∷ []) g.went.ticked_it n.ticked_it;
    };
    given_up = λ config read wrote answers moments k.
        given_as config wait (read ++ piece) (read ++ piece) (wrote ++ g.went.bytes) (wrote ++ g.went.bytes)
        ((answers ++ g.went.answers) ++ n.answer ∷ []) (answers ++ (g.went.answers ++ n.answer ∷ []))
        ((moments ++ g.went.moments) ++ n.now ∷ []) (moments ++ (g.went.moments ++ n.now ∷ [])) b
        refl refl (append_assoc answers g.went.answers (n.answer ∷ [])) (append_assoc moments g.went.moments (n.now ∷ []))
        (given_not_taken config wait (read ++ piece) (wrote ++ g.went.bytes) (answers ++ g.went.answers) (moments ++ g.went.moments)
        told1 ticked1 mid new b n
        (g.live config read wrote answers moments k));
    is_flushed = λ h. g.is_flushed;
  }

-- a write failed, or had no memory
module _ (wait : ℕ) (took took1 took2 : List ℕ → Type 0) (told : List Answer → Type 0) (ticked : List ℕ → Type 0)
    (same flushed same2 flushed2 : Type 0) (piece : List ℕ) where
  pub up_handed : (old mid : Talk) (b : Broken) → (g : Going wait took told ticked same flushed piece old mid)
      → (h : HandedSome took1 mid b)
      → ((x y : List ℕ) → took x → took1 y → took2 (x ++ y))
      → Unsettled wait took2 told ticked same2 flushed2 piece old b
  up_handed old mid b g h c = record {
    went = record {
      bytes = g.went.bytes ++ take h.count mid.out;
      answers = g.went.answers;
      moments = g.went.moments;
      took_it = c g.went.bytes (take h.count mid.out) g.went.took_it h.took_it;
      told_it = g.went.told_it;
      ticked_it = g.went.ticked_it;
    };
    given_up = λ config read wrote answers moments k.
        given_as config wait (read ++ piece) (read ++ piece) ((wrote ++ g.went.bytes) ++ take h.count mid.out) (wrote ++ (g.went.bytes
        ++ take h.count mid.out)) _ _ _ _ b
        refl (append_assoc wrote g.went.bytes (take h.count mid.out)) refl refl
        (given_handed config wait (read ++ piece) (wrote ++ g.went.bytes) (answers ++ g.went.answers) (moments ++ g.went.moments) took1
        mid b h
        (g.live config read wrote answers moments k));
    is_flushed = λ e. absurd (h.no_answer e);
  }

-- there were too many questions
module _ (wait : ℕ) (took : List ℕ → Type 0) (told : List Answer → Type 0) (ticked : List ℕ
    → Type 0) (same flushed : Type 0) (piece : List ℕ) where
  pub up_spent : (old mid : Talk) → (g : Going wait took told ticked same flushed piece old mid)
      → Unsettled wait took told ticked same flushed piece old broken.Memory
  up_spent old mid g = record {
    went = g.went;
    given_up = λ config read wrote answers moments k.
        unfinished config wait (read ++ piece) (wrote ++ g.went.bytes) (answers ++ g.went.answers) (moments ++ g.went.moments) mid
        (g.live config read wrote answers moments k);
    is_flushed = λ e. absurd (cc);
  }

-- ---- behind a piece that was fed

module _ (wait : ℕ) (took : List ℕ → Type 0) (told : List Answer → Type 0) (ticked : List ℕ
    → Type 0) (same flushed : Type 0) (piece : List ℕ) (old mid : Talk) where
  pub fed_settled : (new : Talk) → Feeds old piece mid → asked old ≡ None → (s : Settled wait took told ticked same flushed [] mid new)
      → Settled wait took told ticked same flushed piece old new
  fed_settled new f n s = record {
    going = record {
      went = s.going.went;
      live = λ config read wrote answers moments k.
          live_as config wait ((read ++ piece) ++ []) (read ++ piece) _ _ _ _ _ _ new (append-nil (read ++ piece)) refl refl refl
          (s.going.live config (read ++ piece) wrote answers moments (live_fed config wait read wrote piece answers moments old mid f n k));
      is_flushed = s.going.is_flushed;
    };
    handed = s.handed;
    none = s.none;
    is_live = s.is_live;
  }

  pub fed_unsettled : (b : Broken) → Feeds old piece mid → asked old ≡ None → (s : Unsettled wait took told ticked same flushed [] mid b)
      → Unsettled wait took told ticked same flushed piece old b
  fed_unsettled b f n s = record {
    went = s.went;
    given_up = λ config read wrote answers moments k.
        given_as config wait ((read ++ piece) ++ []) (read ++ piece) _ _ _ _ _ _ b (append-nil (read ++ piece)) refl refl refl
        (s.given_up config (read ++ piece) wrote answers moments (live_fed config wait read wrote piece answers moments old mid f n k));
    is_flushed = s.is_flushed;
  }

  pub not_fed : FeedBreaks old piece mid → asked old ≡ None → took [] → told [] → ticked []
      → Unsettled wait took told ticked same flushed piece old broken.Memory
  not_fed f n a b c = record {
    went = record { bytes = []; answers = []; moments = []; took_it = a; told_it = b; ticked_it = c };
    given_up = λ config read wrote answers moments k.
        given_as config wait (read ++ piece) (read ++ piece) wrote (wrote ++ []) answers (answers ++ []) moments (moments ++ [])
        broken.Memory
        refl (sym (append-nil wrote)) (sym (append-nil answers)) (sym (append-nil moments))
        (given_fed config wait read wrote piece answers moments old mid f n k);
    is_flushed = λ e. absurd (cc);
  }

-- either way the question stays without its answer
module _ (wait : ℕ) (took : List ℕ → Type 0) (told told1 told2 : List Answer → Type 0) (ticked ticked1 ticked2 : List ℕ → Type 0)
    (same flushed : Type 0) (piece : List ℕ) where
  pub up_answer : (old mid new : Talk) (b : Broken) → Going wait took told ticked same flushed piece old mid → mid.out ≡ []
      → NoAnswer told1 ticked1 mid b ⊎ NotTaken wait told1 ticked1 mid new b
      → ((x y : List Answer) → told x → told1 y → told2 (x ++ y)) → ((x y : List ℕ) → ticked x → ticked1 y → ticked2 (x ++ y))
      → Unsettled wait took told2 ticked2 same flushed piece old b
  up_answer old mid new b g e (inl n) c d =
      up_none wait took told told1 told2 ticked ticked1 ticked2 same flushed piece old mid b g e n c d
  up_answer old mid new b g e (inr n) c d =
      up_not_taken wait took told told1 told2 ticked ticked1 ticked2 same flushed piece old mid new b g n c d

-- ---- a step: what was written is handed out, and then a question is answered, or not
module _ (wait : ℕ) (took took1 took2 : List ℕ → Type 0) (told told1 told2 : List Answer → Type 0) (ticked ticked1 ticked2 : List ℕ
    → Type 0)
    (same flushed same1 flushed1 same2 : Type 0) (piece : List ℕ) (old now mid : Talk)
    (g : Going wait took told ticked same flushed piece old now) (h : Handed took1 same1 flushed1 now mid)
    (w : (x y : List ℕ) → took x → took1 y → took2 (x ++ y)) (s : same → same1 → same2) (f : same1 → flushed → flushed1)
    (c : (x y : List Answer) → told x → told1 y → told2 (x ++ y)) (d : (x y : List ℕ) → ticked x → ticked1 y → ticked2 (x ++ y)) where
  all_out : Going wait took2 told ticked same2 flushed1 piece old mid
  all_out = on_handed wait took took1 took2 told ticked same flushed same1 flushed1 same2 piece old now mid g h w s f

  out_none : mid.out ≡ []
  out_none = ap (λ (t : Talk). t.out) h.rest

  pub step_answered : (new : Talk) → AnsweredOne wait told1 ticked1 mid new → Going wait took2 told2 ticked2 same2 flushed1 piece old new
  step_answered new a = on_answered wait took2 told told1 told2 ticked ticked1 ticked2 same2 flushed1 piece old mid new all_out a c d

  pub step_none : (new : Talk) → IsLive mid → AskedNone told1 ticked1 mid new → Settled wait took2 told2 ticked2 same2 flushed1 piece
      old new
  step_none new l a = on_none wait took2 told told1 told2 ticked ticked1 ticked2 same2 flushed1 piece old mid new all_out out_none l a c d

  pub step_up : (new : Talk) (b : Broken) → NoAnswer told1 ticked1 mid b ⊎ NotTaken wait told1 ticked1 mid new b
      → Unsettled wait took2 told2 ticked2 same2 flushed1 piece old b
  step_up new b a = up_answer wait took2 told told1 told2 ticked ticked1 ticked2 same2 flushed1 piece old mid new b all_out out_none a c d
