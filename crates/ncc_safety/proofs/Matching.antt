-- Logs that have an item of one term at one place are the same up to it, and Appends are cuts of them.
use Rattle.std.proofs.Common.{suc, ◌+◌, slice_get, ap, ◌∙◌, sym, arith}
use Rattle.std.proofs.lemmas.Option.{slice_get_within}
use Rattle.ncc_safety.specs.Cluster.{Cluster}
use Rattle.ncc_safety.specs.Laws.{LogsMatch, AppendsCut, Matched}
use Rattle.ncc_safety.specs.Steps.{Steps}
use Rattle.ncc_safety.proofs.Agree.{take_same}
use Rattle.ncc_safety.proofs.Logs.{sound_stays, sound_agree}
use Rattle.ncc_safety.proofs.Nines.{logs_of, cuts_of, acks_of}
use Rattle.ncc_safety.proofs.Owners.{leads_log}
use Rattle.ncc_safety.proofs.Sane.{Sane, later}

module _ (c d : Cluster) (s : Steps c d) (k : Sane c) where
  pub logs_match : LogsMatch c d
  logs_match i j p x y ex ey e =
      let q = later c d s k in
      let a = sound_stays c.records d.records q.logs (c.at i).log (k.logs.members i).sound in
      let b = (q.sane.logs.members j).sound in
      let w = slice_get_within (c.at i).log p x ex in
      take_same (suc p) (c.at i).log (d.at j).log (omega arith) (sound_agree d.records (c.at i).log (d.at j).log p x y a b ex ey e)

  pub appends_cut : AppendsCut c d
  appends_cut = (
    cuts_of c k,
    λ i to t prev pterm commit items j sent l.
        let q = later c d s k in
        let x = cuts_of c k i to t prev pterm commit items sent in
        let y = leads_log d t j q.sane.good l in
        λ p z e. ap (λ w. slice_get w (prev + p)) (sym y) ∙ q.logs.leads t (prev + p) z (x.cut p z e),
  )

pub matched : (c : Cluster) → Sane c → Matched c
matched c k = record { logs = logs_of c k; cuts = cuts_of c k; acks = acks_of c k }
