-- One small thing after another.
use Rattle.ncc_clients.specs.Members.{Cluster}
use Rattle.ncc_clients.specs.Run.{Run}
use Rattle.ncc_clients.specs.Moment.{Small, Path, Here, Then}

pub path_one : {S : Type 0} (C : Cluster S) (r s : Run S) → Small C r s → Path C r s
path_one C r s h = Then r s s h (Here s)

pub path_join : {S : Type 0} (C : Cluster S) (r s t : Run S) → Path C r s → Path C s t → Path C r t
path_join C r s t (Here _) q = q
path_join C r s t (Then _ m _ h p) q = Then r m t h (path_join C m s t p q)

pub path_more : {S : Type 0} (C : Cluster S) (r s t : Run S) → Path C r s → Small C s t → Path C r t
path_more C r s t p h = path_join C r s t p (path_one C s t h)
