-- A request that was read has values that fit.
use Rattle.std.proofs.Common.{◌≡◌, ℕ, Bool, true, false, ◌&&◌, IsTrue, List, refl}
use Rattle.ncc_pack.specs.declared.value.Value.{Value}
use Rattle.ncc_pack.specs.Spells.{spells}
use Rattle.ncc_pack.specs.Fits.{fits}
use Rattle.ncc_bolt.specs.declared.message.Request.{Request}
use Rattle.ncc_bolt.specs.Messages.{SpellsRequest, hello, goodbye, reset, run, begin, commit, rollback, discard, pull, route}
use Rattle.ncc_bolt.specs.Writing.{fits_request}

three_true : (a b c : Bool) → IsTrue a → IsTrue b → IsTrue c → IsTrue (a && b && c)
three_true true true true x y z = z
three_true true true false x y z = z
three_true true false c x y z = absurd (let f : false ≡ true = y in cc)
three_true false b c x y z = absurd (let f : false ≡ true = x in cc)

pub request_fits : ((x : Value) (b : List ℕ) → spells x b → IsTrue (fits x)) → (m : Request) (bytes : List ℕ) → SpellsRequest m bytes
    → IsTrue (fits_request m)
request_fits law m bytes (hello extra e s) = law _ e s
request_fits law m bytes goodbye = refl
request_fits law m bytes reset = refl
request_fits law m bytes (run query params extra q p e x y z) = three_true _ _ _ (law _ q x) (law _ p y) (law _ e z)
request_fits law m bytes (begin extra e s) = law _ e s
request_fits law m bytes commit = refl
request_fits law m bytes rollback = refl
request_fits law m bytes (discard extra e s) = law _ e s
request_fits law m bytes (pull extra e s) = law _ e s
request_fits law m bytes (route routing bookmarks extra g b e x y z) = three_true _ _ _ (law _ g x) (law _ b y) (law _ e z)
