-- How a replay ends, by what was read.
use Rattle.std.proofs.Common.{◌≡◌, ◌≢◌, ℕ, ◌+◌, List, ◌++◌, Option, None, Some, refl, ap, ◌∙◌, subst, inl, inr}
use Rattle.std.specs.Io.KnownBytes.{Consumes, IsAtEnd}
use Rattle.std.proofs.lemmas.List.{append-nil}
use Rattle.ncc_world.specs.declared.setup.Setup.{Setup}
use Rattle.ncc_world.specs.declared.event.Event.{Event}
use Rattle.ncc_world.specs.declared.error.Which.{Which}
use Rattle.ncc_world.specs.declared.error.Which.TheVariants as w
use Rattle.ncc_world.specs.Happening.{WorldRun, start_of}
use Rattle.ncc_replay.specs.Script.{Script, End, whole, refused, limited, Lines, IsText, OneEnd, numbered, EventLines, ClusterLines}
use Rattle.ncc_replay.specs.Script.{ScriptLines}
use Rattle.ncc_replay.specs.Replay.{ReadsAll, ReadsUpTo, Passes, MayEnd, status_of, status_of_script_error}
use Rattle.ncc_replay.specs.declared.status.Cause.{Cause}
use Rattle.ncc_replay.specs.declared.status.Status.TheVariants.{Done, BadScript}
use Rattle.ncc_replay.specs.declared.status.Status.TheVariants as status
use Rattle.ncc_replay.specs.declared.script.ScriptError.{ScriptError}
use Rattle.ncc_replay.specs.declared.script.ScriptError.TheVariants.{Bad, Limit, Memory}

-- what was read is what was there
pub read_is : (old new : Option (List ℕ)) (text read : List ℕ) → old ≡ Some text → ReadsAll old new read → text ≡ read
read_is old new text read e h = go new (subst (λ o. Consumes o new read) e h.consumed) h.ended where
  go : (o : Option (List ℕ)) → Consumes (Some text) o read → IsAtEnd o → text ≡ read
  go None c a = absurd c
  go (Some rest) c a = c ∙ (ap (λ l. read ++ l) a ∙ append-nil read)

-- a line of a script never passes the limit of the script's bytes

never_events : (s : Setup) (n : ℕ) (r : WorldRun) (ls : Lines) (es : List (ℕ × Event)) (t : WorldRun) (end : End)
    → EventLines s n r ls es t end → end ≢ limited w.Script
never_events s n r ls es t end (EventLines.none_left m q) e = cc
never_events s n r ls es t end (EventLines.long m q number line rest h) e = cc
never_events s n r ls es t end (EventLines.skipped m q number line rest fs u stop f h more) e = never_events s m q rest fs u stop more e
never_events s n r ls es t end (EventLines.says_none m q number line rest cause c none) e = cc
never_events s n r ls es t end (EventLines.not_allowed m q number line rest event cause c says differs) e = cc
never_events s n r ls es t end (EventLines.many m q number line rest event a many) e = cc
never_events s n r ls es t end (EventLines.happens m q after number line rest event fs u stop a few did more) e =
    never_events s (m + 1) after rest fs u stop more e

never_cluster : (ls : Lines) (s : Script) (t : Option WorldRun) (end : End) → ClusterLines ls s t end → end ≢ limited w.Script
never_cluster ls s t end ClusterLines.none_left e = cc
never_cluster ls s t end (ClusterLines.long number line rest h) e = cc
never_cluster ls s t end (ClusterLines.skipped number line rest x u stop f h more) e = never_cluster rest x u stop more e
never_cluster ls s t end (ClusterLines.says_none number line rest cause c none) e = cc
never_cluster ls s t end (ClusterLines.says number line rest setup es u stop c says more) e =
    never_events setup 0 (start_of setup) rest es u stop more e

never_script : (ls : Lines) (s : Script) (t : Option WorldRun) (end : End) → ScriptLines ls s t end → end ≢ limited w.Script
never_script ls s t end ScriptLines.none_left e = cc
never_script ls s t end (ScriptLines.long number line rest h) e = cc
never_script ls s t end (ScriptLines.skipped number line rest x u stop f h more) e = never_script rest x u stop more e
never_script ls s t end (ScriptLines.other number line rest c differs) e = cc
never_script ls s t end (ScriptLines.is_header number line rest x u stop c is more) e = never_cluster rest x u stop more e

passes : (old new : Option (List ℕ)) (which : Which) → ReadsUpTo old new (limited which) → Passes old new which
passes old new w.Script h = absurd (never_script (numbered h.2.text) h.0 h.1 (limited w.Script) h.2.is_text refl)
passes old new w.Events h = h
passes old new w.Messages h = h
passes old new w.MessageBytes h = h
passes old new w.Line h = h

-- some text ends so
abbrev pub Ends : List ℕ → End → Type 0
Ends text end = (s : Script) × (t : Option WorldRun) × IsText text s t end

reads_up_to : (old new : Option (List ℕ)) (text : List ℕ) (end : End) → ReadsAll old new text → Ends text end → ReadsUpTo old new end
reads_up_to old new text end reads e = (e.0, e.1, record { text = text; reads = reads; is_text = e.2 })

-- of an input that gives no run

pub bad_of : (old new : Option (List ℕ)) (text : List ℕ) (error : ScriptError) → ReadsAll old new text
    → ((line : ℕ) (cause : Cause) → error ≡ Bad line cause → Ends text (refused line cause)) → (line : ℕ) (cause : Cause)
    → status_of_script_error error ≡ BadScript line cause → ReadsUpTo old new (refused line cause)
bad_of old new text (Bad at why) reads bad line cause e =
    let lines : at ≡ line = cc in
    let causes : why ≡ cause = cc in
    reads_up_to old new text (refused line cause) reads (bad line cause (ap (λ n. Bad n why) lines ∙ ap (λ k. Bad line k) causes))
bad_of old new text (Limit which) reads bad line cause e = absurd (cc)
bad_of old new text Memory reads bad line cause e = absurd (cc)

pub limit_of : (old new : Option (List ℕ)) (text : List ℕ) (error : ScriptError) → ReadsAll old new text
    → ((which : Which) → error ≡ Limit which → Ends text (limited which)) → (which : Which)
    → status_of_script_error error ≡ status.Limit which → Passes old new which
limit_of old new text (Bad at why) reads limit which e = absurd (cc)
limit_of old new text (Limit passed) reads limit which e =
    let same : passed ≡ which = cc in
    passes old new which (reads_up_to old new text (limited which) reads (limit which (ap Limit same)))
limit_of old new text Memory reads limit which e = absurd (cc)

-- the text decides
pub ends_with : OneEnd → (text : List ℕ) (s : Script) (t : Option WorldRun) (end : End) (error : ScriptError) → IsText text s t end
    → ((line : ℕ) (cause : Cause) → error ≡ Bad line cause → Ends text (refused line cause))
    → ((which : Which) → error ≡ Limit which → Ends text (limited which)) → MayEnd (status_of_script_error error) (status_of end)
ends_with one text s t end (Bad line cause) is bad limit =
    let b = bad line cause refl in inl (ap status_of (one text b.0 s b.1 t (refused line cause) end b.2 is).0)
ends_with one text s t end (Limit which) is bad limit =
    let b = limit which refl in inl (ap status_of (one text b.0 s b.1 t (limited which) end b.2 is).0)
ends_with one text s t end Memory is bad limit = inr (inl refl)

pub never_refused : OneEnd → (text : List ℕ) (s x : Script) (t u : Option WorldRun) (line : ℕ) (cause : Cause) → IsText text s t whole
    → IsText text x u (refused line cause) → ⊥
never_refused one text s x t u line cause is other = differ (one text s x t u whole (refused line cause) is other).0 where
  differ : whole ≡ refused line cause → ⊥
  differ e = cc

pub never_limited : OneEnd → (text : List ℕ) (s x : Script) (t u : Option WorldRun) (which : Which) → IsText text s t whole
    → IsText text x u (limited which) → ⊥
never_limited one text s x t u which is other = differ (one text s x t u whole (limited which) is other).0 where
  differ : whole ≡ limited which → ⊥
  differ e = cc
