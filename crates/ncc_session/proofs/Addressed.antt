-- Addresses that fit are texts.
use Rattle.std.proofs.Common.{◌≡◌, Bool, true, false, List, [], ◌∷◌, refl, sym, ap, subst, ◌∙◌, arith}
use Rattle.std.proofs.lemmas.Bool.{false≢true}
use Rattle.std.specs.Prelude.{IsTrue}
use Rattle.ncc_pack.specs.declared.value.Value.{Value, roll-Value, out-Value, roll-out-Value}
use Rattle.ncc_pack.specs.declared.value.NodeValue.{NodeValue}
use Rattle.ncc_pack.specs.declared.value.Value.TheOpen.{Value-F}
use Rattle.ncc_pack.specs.declared.value.Value.TheVariants as v
use Rattle.ncc_pack.specs.Texts.{is_text, texts_alone}
use Rattle.ncc_route.specs.Addresses.{members_are_texts}
use Rattle.ncc_session.specs.declared.config.ConnConfig.{ConnConfig}
use Rattle.ncc_session.specs.Config.{address_fits, addresses_fit, config_allowed}

text_by : (l : Value-F Value NodeValue) → address_fits (roll-Value l) ≡ true → is_text (roll-Value l) ≡ true
unfolding address_fits
text_by (Value-F.Text t) h = ap is_text (v.rolls-Text t)
text_by Value-F.Null h = absurd (false≢true (ap address_fits (sym v.rolls-Null) ∙ h))
text_by (Value-F.Bool b) h = absurd (false≢true (ap address_fits (sym (v.rolls-Bool b)) ∙ h))
text_by (Value-F.Int n) h = absurd (false≢true (ap address_fits (sym (v.rolls-Int n)) ∙ h))
text_by (Value-F.Bytes b) h = absurd (false≢true (ap address_fits (sym (v.rolls-Bytes b)) ∙ h))
text_by (Value-F.List xs) h = absurd (false≢true (ap address_fits (sym (v.rolls-List xs)) ∙ h))
text_by (Value-F.Dict ps) h = absurd (false≢true (ap address_fits (sym (v.rolls-Dict ps)) ∙ h))
text_by (Value-F.Node n) h = absurd (false≢true (ap address_fits (sym (v.rolls-Node n)) ∙ h))

one_text : (x : Value) → address_fits x ≡ true → is_text x ≡ true
one_text x = subst (λ (y : Value). address_fits y ≡ true → is_text y ≡ true) (roll-out-Value x) (text_by (out-Value x))

texts : (xs : List Value) → addresses_fit xs ≡ true → texts_alone xs ≡ true
texts [] h = refl
texts (x ∷ xs) h =
    let head : address_fits x ≡ true = grind arith in
    let rest : addresses_fit xs ≡ true = grind arith in
    rw (one_text x head, texts xs rest) refl

cores_fit : (c : ConnConfig) (b : Bool) → addresses_fit c.members.cores ≡ b → IsTrue (config_allowed c) → b ≡ true
cores_fit c true e h = refl
cores_fit c false e h = absurd (let none : config_allowed c ≡ false = rw (e, config_allowed) refl in cc)

replicas_fit : (c : ConnConfig) (b : Bool) → addresses_fit c.members.replicas ≡ b → IsTrue (config_allowed c) → b ≡ true
replicas_fit c true e h = refl
replicas_fit c false e h = absurd (
    let cores : addresses_fit c.members.cores ≡ true = cores_fit c (addresses_fit c.members.cores) refl h in
    let none : config_allowed c ≡ false = rw (cores, e, config_allowed) refl in
    cc
    )

pub members_texts : (c : ConnConfig) → IsTrue (config_allowed c) → IsTrue (members_are_texts c.members)
members_texts c h = rw (
  texts c.members.cores (cores_fit c (addresses_fit c.members.cores) refl h),
  texts c.members.replicas (replicas_fit c (addresses_fit c.members.replicas) refl h),
  members_are_texts,
) refl
