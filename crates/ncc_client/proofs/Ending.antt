-- What a client says of a work that stopped.
use Rattle.std.proofs.Common.{◌≡◌, ◌⊎◌, ℕ, List, [], ◌∷◌, inl, inr, refl, sym, subst, Err}
use Rattle.ncc_driver.specs.declared.config.SessionConfig.{SessionConfig}
use Rattle.ncc_driver.specs.declared.action.Action.{Action}
use Rattle.ncc_driver.specs.declared.action.Action.TheVariants.{Finish}
use Rattle.ncc_driver.specs.declared.action.WorkError.{WorkError}
use Rattle.ncc_driver.specs.Work.{Job}
use Rattle.ncc_client.specs.declared.status.ClientStatus.{ClientStatus}
use Rattle.ncc_client.specs.declared.status.ClientStatus.TheVariants as status
use Rattle.ncc_client.specs.declared.working.Stop.{Stop}
use Rattle.ncc_client.specs.declared.working.Stop.TheVariants as stop
use Rattle.ncc_client.specs.Calls.{Call}
use Rattle.ncc_client.specs.Words.{Asks}
use Rattle.ncc_client.specs.Working.{End, Ran, SaysEnd, SaysOf, SaysBy, WorkedBy}
use Rattle.ncc_client.specs.Turning.{Worked, Unbegun}

end_in : (end other : End) (more : List Action) → Finish end ∷ [] ≡ Finish other ∷ more → other ≡ end
end_in end other more e = cc

same_end : (end other : End) (says : ClientStatus) (wrote : List ℕ) (more : List Action) → Finish end ∷ [] ≡ Finish other ∷ more
    → SaysOf other says wrote → SaysOf end says wrote
same_end end other says wrote more e h = subst (λ (x : End). SaysOf x says wrote) (end_in end other more e) h

-- what is said of an end stays true with more actions behind it
says_more : (says : ClientStatus) (end : End) (more : List Action) (wrote : List ℕ) → SaysEnd says (Finish end ∷ []) wrote
    → SaysEnd says (Finish end ∷ more) wrote
says_more status.Memory end more wrote h = h
says_more status.Done end more wrote h = (end, more, refl, same_end end h.0 status.Done wrote h.1 h.2 h.3)
says_more status.BadWords end more wrote h = (end, more, refl, same_end end h.0 status.BadWords wrote h.1 h.2 h.3)
says_more (status.Failed e) end more wrote h = (end, more, refl, same_end end h.0 (status.Failed e) wrote h.1 h.2 h.3)
says_more status.WriteFault end more wrote h = (end, more, refl, same_end end h.0 status.WriteFault wrote h.1 h.2 h.3)

ended : (config : SessionConfig) (job : Job) (calls : List Call) (moments wrote : List ℕ) (made : List Call → Type 0)
    (ticked : List ℕ → Type 0) (rose : Type 0) (end : End) (says : ClientStatus) → SaysEnd says (Finish end ∷ []) wrote
    → (w : Worked config job made ticked rose (stop.Ended end)) → Ran config job w.went.calls w.went.moments wrote rose says
ended config job calls moments wrote made ticked rose end says h w = record {
  began = w.began;
  later = w.later;
  moments_are = w.moments_are;
  one_each = w.stopped.one_each;
  rest = w.stopped.rest;
  acts_are = w.stopped.acts_are;
  lost = w.went.lost;
  says_end = subst (λ (r : List Action). SaysEnd says r wrote) (sym w.stopped.stops.1) (says_more says end w.stopped.stops.0 wrote h);
}

never : (end : End) (made : List Call → Type 0) (ticked : List ℕ → Type 0) → Unbegun made ticked (stop.Ended end) → ⊥
never end made ticked u = let e : stop.Ended end ≡ stop.Memory = u.memory in absurd (cc)

by_end : (words : List (List ℕ)) (config : SessionConfig) (job : Job) (made : List Call → Type 0) (ticked took : List ℕ → Type 0)
    (rose : Type 0) (end : End) (says : ClientStatus) (wrote : List ℕ) → Asks words config job → took wrote
    → SaysEnd says (Finish end ∷ []) wrote
    → Unbegun made ticked (stop.Ended end) ⊎ Worked config job made ticked rose (stop.Ended end)
    → WorkedBy words made ticked took rose says
by_end words config job made ticked took rose end says wrote a t s (inl u) = absurd (never end made ticked u)
by_end words config job made ticked took rose end says wrote a t s (inr w) = record {
  config = config;
  job = job;
  asks = a;
  calls = w.went.calls;
  moments = w.went.moments;
  wrote = wrote;
  made_it = w.went.made_it;
  ticked_it = w.went.ticked_it;
  took_it = t;
  ran = inr (ended config job w.went.calls w.went.moments wrote made ticked rose end says s w);
}

-- the work ended so, and the client says this of it
pub says_end : (words : List (List ℕ)) (config : SessionConfig) (job : Job) (made : List Call → Type 0) (ticked took : List ℕ → Type 0)
    (rose : Type 0) (why : Stop) (end : End) (says : ClientStatus) → why ≡ stop.Ended end → Asks words config job → SaysBy took end says
    → Unbegun made ticked why ⊎ Worked config job made ticked rose why → WorkedBy words made ticked took rose says
says_end words config job made ticked took rose why end says e a s h =
    by_end words config job made ticked took rose end says s.wrote a s.took_it s.says_it
    (subst (λ (w : Stop). Unbegun made ticked w ⊎ Worked config job made ticked rose w) e h)

-- the work was not committed
pub says_failed : (took : List ℕ → Type 0) (error : WorkError) → took [] → SaysBy took (Err error) (status.Failed error)
says_failed took error t = record { wrote = []; took_it = t; says_it = (Err error, [], refl, (refl, refl)) }

by_memory : (words : List (List ℕ)) (config : SessionConfig) (job : Job) (made : List Call → Type 0) (ticked took : List ℕ → Type 0)
    (rose : Type 0) → Asks words config job → took []
    → Unbegun made ticked stop.Memory ⊎ Worked config job made ticked rose stop.Memory
    → WorkedBy words made ticked took rose status.Memory
by_memory words config job made ticked took rose a t (inl u) = record {
  config = config;
  job = job;
  asks = a;
  calls = [];
  moments = [];
  wrote = [];
  made_it = u.made_none;
  ticked_it = u.ticked_none;
  took_it = t;
  ran = inl (record { says_memory = refl; no_calls = refl; no_moments = refl; no_bytes = refl });
}
by_memory words config job made ticked took rose a t (inr w) = record {
  config = config;
  job = job;
  asks = a;
  calls = w.went.calls;
  moments = w.went.moments;
  wrote = [];
  made_it = w.went.made_it;
  ticked_it = w.went.ticked_it;
  took_it = t;
  ran = inr (record {
    began = w.began;
    later = w.later;
    moments_are = w.moments_are;
    one_each = w.stopped.one_each;
    rest = w.stopped.rest;
    acts_are = w.stopped.acts_are;
    lost = w.went.lost;
    says_end = refl;
  });
}

pub says_memory : (words : List (List ℕ)) (config : SessionConfig) (job : Job) (made : List Call → Type 0) (ticked took : List ℕ → Type 0)
    (rose : Type 0) (why : Stop) → why ≡ stop.Memory → Asks words config job → took []
    → Unbegun made ticked why ⊎ Worked config job made ticked rose why → WorkedBy words made ticked took rose status.Memory
says_memory words config job made ticked took rose why e a t h =
    by_memory words config job made ticked took rose a t
    (subst (λ (w : Stop). Unbegun made ticked w ⊎ Worked config job made ticked rose w) e h)

-- memory was wanting while the words were read
pub says_early : (words : List (List ℕ)) (config : SessionConfig) (job : Job) (made : List Call → Type 0) (ticked took : List ℕ → Type 0)
    (rose : Type 0) → Asks words config job → made [] → ticked [] → took [] → WorkedBy words made ticked took rose status.Memory
says_early words config job made ticked took rose a m c t =
    by_memory words config job made ticked took rose a t (inl (record { made_none = m; ticked_none = c; memory = refl }))

-- the same of an equal job
pub as_job : (config : SessionConfig) (job other : Job) (made : List Call → Type 0) (ticked : List ℕ → Type 0) (rose : Type 0) (why : Stop)
    → other ≡ job → Unbegun made ticked why ⊎ Worked config other made ticked rose why
    → Unbegun made ticked why ⊎ Worked config job made ticked rose why
as_job config job other made ticked rose why e h =
    subst (λ (j : Job). Unbegun made ticked why ⊎ Worked config j made ticked rose why) e h

abbrev pub End_of : End → Stop
End_of end = stop.Ended end
