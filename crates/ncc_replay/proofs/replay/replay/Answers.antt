use Rattle.std.proofs.Common.{◌≡◌, ap, sym, subst, ◌∙◌, Err}
use Rattle.ncc_replay.specs.Script.{IsText, whole, refused, limited}
use Rattle.ncc_replay.specs.Replay.{MayEnd, ReadsAll}
use Rattle.ncc_replay.specs.declared.status.Status.TheVariants.{Done, BadScript, Limit}
use Rattle.ncc_replay.proofs.Ends.{bad_of, limit_of, ends_with, never_limited, never_refused, read_is}
use Rattle.ncc_replay.proofs.OneEnd.{text_keeps, text_reads}
use Rattle.ncc_replay.proofs.replay.replay.Goals as goal

pub returns-in-Err-report_script-clause-completes : goal.returns-in-Err-report_script-clause-completes
returns-in-Err-report_script-clause-completes g c = λ text s t given within is.
    let same : text ≡ c.in-Ok.text.items = read_is (g.S.Source.left c.args.input.now)
    (g.S.Source.left c.read_all.new.input) text c.in-Ok.text.items given.holds c.in-Ok.ensures.ok in
    let there : text ≡ c.as_slice.result.now = same ∙ sym c.as_slice.ensures.value in
    subst (λ x. MayEnd x Done) (sym c.status_of_script_error.ensures)
    (ends_with c.one_end.ensures.one c.as_slice.result.now s t whole c.in-Err-report_script.error (subst (λ l. IsText l s t whole) there is)
    (λ at why e. c.in-Err-report_script.ensures.bad at why (ap Err e)) (λ passed e. c.in-Err-report_script.ensures.limit passed (ap Err e)))

pub returns-in-Err-report_script-clause-refuses : goal.returns-in-Err-report_script-clause-refuses
returns-in-Err-report_script-clause-refuses g c = λ text s t line cause given within is.
    let same : text ≡ c.in-Ok.text.items = read_is (g.S.Source.left c.args.input.now)
    (g.S.Source.left c.read_all.new.input) text c.in-Ok.text.items given.holds c.in-Ok.ensures.ok in
    let there : text ≡ c.as_slice.result.now = same ∙ sym c.as_slice.ensures.value in
    subst (λ x. MayEnd x (BadScript line cause)) (sym c.status_of_script_error.ensures)
    (ends_with c.one_end.ensures.one c.as_slice.result.now s t (refused line cause) c.in-Err-report_script.error (subst
    (λ l. IsText l s t (refused line cause)) there is)
    (λ at why e. c.in-Err-report_script.ensures.bad at why (ap Err e)) (λ passed e. c.in-Err-report_script.ensures.limit passed (ap Err e)))

pub returns-in-Err-report_script-clause-limited : goal.returns-in-Err-report_script-clause-limited
returns-in-Err-report_script-clause-limited g c = λ text s t which given within is.
    let same : text ≡ c.in-Ok.text.items = read_is (g.S.Source.left c.args.input.now)
    (g.S.Source.left c.read_all.new.input) text c.in-Ok.text.items given.holds c.in-Ok.ensures.ok in
    let there : text ≡ c.as_slice.result.now = same ∙ sym c.as_slice.ensures.value in
    subst (λ x. MayEnd x (Limit which)) (sym c.status_of_script_error.ensures)
    (ends_with c.one_end.ensures.one c.as_slice.result.now s t (limited which) c.in-Err-report_script.error (subst (λ l. IsText l s t
    (limited which)) there is)
    (λ at why e. c.in-Err-report_script.ensures.bad at why (ap Err e)) (λ passed e. c.in-Err-report_script.ensures.limit passed (ap Err e)))

pub returns-in-Err-report_script-clause-bad_script : goal.returns-in-Err-report_script-clause-bad_script
returns-in-Err-report_script-clause-bad_script g c = λ line cause e.
    bad_of (g.S.Source.left c.args.input.now) (g.S.Source.left c.read_all.new.input) c.as_slice.result.now c.in-Err-report_script.error
    (subst (ReadsAll (g.S.Source.left c.args.input.now) (g.S.Source.left c.read_all.new.input))
    (sym c.as_slice.ensures.value) c.in-Ok.ensures.ok)
    (λ at why f. c.in-Err-report_script.ensures.bad at why (ap Err f)) line cause (sym c.status_of_script_error.ensures ∙ e)

pub returns-in-Err-report_script-clause-limit : goal.returns-in-Err-report_script-clause-limit
returns-in-Err-report_script-clause-limit g c = λ which e.
    limit_of (g.S.Source.left c.args.input.now) (g.S.Source.left c.read_all.new.input) c.as_slice.result.now c.in-Err-report_script.error
    (subst (ReadsAll (g.S.Source.left c.args.input.now) (g.S.Source.left c.read_all.new.input))
    (sym c.as_slice.ensures.value) c.in-Ok.ensures.ok)
    (λ passed f. c.in-Err-report_script.ensures.limit passed (ap Err f)) which (sym c.status_of_script_error.ensures ∙ e)

pub returns-clause-members_agree : goal.returns-clause-members_agree
returns-clause-members_agree g c = λ _ s t reads setup r e f.
    (text_keeps c.every_run_keeps.ensures.headline reads.text s t whole reads.is_text setup r e f).members_agree

pub returns-clause-facts_are_lawful : goal.returns-clause-facts_are_lawful
returns-clause-facts_are_lawful g c = λ _ s t reads setup r e f.
    (text_keeps c.every_run_keeps.ensures.headline reads.text s t whole reads.is_text setup r e f).facts_are_lawful

pub returns-clause-places_are_apart : goal.returns-clause-places_are_apart
returns-clause-places_are_apart g c = λ _ s t reads setup r e f.
    (text_keeps c.every_run_keeps.ensures.headline reads.text s t whole reads.is_text setup r e f).places_are_apart

pub returns-clause-all_are_served : goal.returns-clause-all_are_served
returns-clause-all_are_served g c = λ _ s t reads setup r e f.
    (text_keeps c.every_run_keeps.ensures.headline reads.text s t whole reads.is_text setup r e f).all_are_served

pub returns-clause-nobody_vanishes : goal.returns-clause-nobody_vanishes
returns-clause-nobody_vanishes g c = λ _ s t reads setup r e f.
    (text_keeps c.every_run_keeps.ensures.headline reads.text s t whole reads.is_text setup r e f).nobody_vanishes

pub returns-clause-nobody_is_forgotten : goal.returns-clause-nobody_is_forgotten
returns-clause-nobody_is_forgotten g c = λ _ s t reads setup r e f.
    (text_keeps c.every_run_keeps.ensures.headline reads.text s t whole reads.is_text setup r e f).nobody_is_forgotten

pub returns-clause-sessions_read_their_writes : goal.returns-clause-sessions_read_their_writes
returns-clause-sessions_read_their_writes g c = λ _ s t reads setup r e f.
    text_reads c.every_run_keeps.ensures.headline reads.text s t whole reads.is_text setup r e f

pub returns-clause-refuses : goal.returns-clause-refuses
returns-clause-refuses g c = λ text s t line cause given within is.
    let same : text ≡ c.in-Ok.text.items = read_is (g.S.Source.left c.args.input.now)
    (g.S.Source.left c.read_all.new.input) text c.in-Ok.text.items given.holds c.in-Ok.ensures.ok in
    let there : text ≡ c.as_slice.result.now = same ∙ sym c.as_slice.ensures.value in
    let run = c.in-Ok-report_script.ensures.ok in
    absurd (never_refused c.one_end.ensures.one c.as_slice.result.now run.0 s run.1 t line cause run.2
    (subst (λ l. IsText l s t (refused line cause)) there is))

pub returns-clause-limited : goal.returns-clause-limited
returns-clause-limited g c = λ text s t which given within is.
    let same : text ≡ c.in-Ok.text.items = read_is (g.S.Source.left c.args.input.now)
    (g.S.Source.left c.read_all.new.input) text c.in-Ok.text.items given.holds c.in-Ok.ensures.ok in
    let there : text ≡ c.as_slice.result.now = same ∙ sym c.as_slice.ensures.value in
    let run = c.in-Ok-report_script.ensures.ok in
    absurd (never_limited c.one_end.ensures.one c.as_slice.result.now run.0 s run.1 t which run.2
    (subst (λ l. IsText l s t (limited which)) there is))
