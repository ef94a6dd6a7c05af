-- Where a question waits, a session moves no further until a fact comes.
use Rattle.std.proofs.Common.{◌≡◌, Some, None, List, [], refl}
use Rattle.std.specs.Prelude.{if◌then◌else◌}
use Rattle.ncc_session.specs.declared.config.ConnConfig.{ConnConfig}
use Rattle.ncc_session.specs.declared.state.ConnState.{ConnState}
use Rattle.ncc_session.specs.declared.state.ConnState.TheVariants.{Ended}
use Rattle.ncc_session.specs.Question.{Question}
use Rattle.ncc_session.specs.Core.{Doing, idle, opened, asks, Situation}
use Rattle.ncc_session.specs.Session.{Input, acts, goes_by, move, asked_at, question_in, is_ended}

doing_waits : (config : ConnConfig) (p : Situation) (d : Doing) (q : Question) (xs : List Input) → question_in d ≡ Some q
    → acts config p d xs [] ≡ None
doing_waits config p (asks r n) q xs e = refl
doing_waits config p idle q xs e = absurd (let f : None ≡ Some q = e in cc)
doing_waits config p (opened tx) q xs e = absurd (let f : None ≡ Some q = e in cc)

live_waits : (config : ConnConfig) (p : Situation) (s : ConnState) (q : Question) (xs : List Input)
    → (if is_ended s then None else question_in p.doing) ≡ Some q → goes_by config p s xs [] ≡ None
live_waits config p (Ended stop) q xs e = absurd (let f : None ≡ Some q = e in cc)
live_waits config p _ q xs e = doing_waits config p p.doing q xs e

pub waits_for_fact : (config : ConnConfig) (p : Situation) (q : Question) (xs : List Input) → asked_at p ≡ Some q → move config p xs [] ≡ None
unfolding move
waits_for_fact config p q xs e = live_waits config p p.state q xs e
