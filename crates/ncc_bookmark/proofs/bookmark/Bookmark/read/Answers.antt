use Rattle.std.proofs.Common.{ℕ, ap, ◌∙◌, sym, ◌≡◌, Ok, Err, inl, subst}
use Rattle.ncc_bookmark.specs.declared.bookmark.BookmarkError.TheVariants.{OtherCluster}
use Rattle.ncc_bookmark.specs.Point.{Point}
use Rattle.ncc_bookmark.specs.Texts.{IsNoText}
use Rattle.ncc_bookmark.proofs.Naming.{reads_same, reads_other, error_read}
use Rattle.ncc_bookmark.proofs.Texts.{point_of_text}
use Rattle.ncc_bookmark.proofs.bookmark.Bookmark.read.Goals as goal

pub returns-then-found-cluster-clause-value : goal.returns-then-found-cluster-clause-value
returns-then-found-cluster-clause-value c =
    let found : Point = record { cluster = c.in-Ok.point.0; place = c.in-Ok.point.1 } in
    let text = sym c.as_bytes.ensures.value ∙ c.in-Ok.ensures.ok in
    inl (sym (reads_other c.args.text.now c.args.cluster found c.in-Ok.ensures.fits text c.if-found-cluster.true))

pub returns-then-found-cluster-clause-only : goal.returns-then-found-cluster-clause-only
returns-then-found-cluster-clause-only c = λ b f e h.
    let found : Point = record { cluster = c.in-Ok.point.0; place = c.in-Ok.point.1 } in
    let text = sym c.as_bytes.ensures.value ∙ c.in-Ok.ensures.ok in
    let same = point_of_text b found c.args.text.now f c.in-Ok.ensures.fits e text in
    absurd (c.if-found-cluster.true (sym (ap (λ p. p.cluster) same) ∙ h))

pub returns-then-found-cluster-clause-only_other : goal.returns-then-found-cluster-clause-only_other
returns-then-found-cluster-clause-only_other c = λ b f e h.
    let found : Point = record { cluster = c.in-Ok.point.0; place = c.in-Ok.point.1 } in
    let text = sym c.as_bytes.ensures.value ∙ c.in-Ok.ensures.ok in
    let same = point_of_text b found c.args.text.now f c.in-Ok.ensures.fits e text in
    inl (ap (λ p. Err (OtherCluster p.cluster)) (sym same))

pub returns-clause-value : goal.returns-clause-value
returns-clause-value c =
    let found : Point = record { cluster = c.in-Ok.point.0; place = c.in-Ok.point.1 } in
    let text = sym c.as_bytes.ensures.value ∙ c.in-Ok.ensures.ok in
    let made : ℕ → Point = λ n. record { cluster = n; place = c.in-Ok.point.1 } in
    let is = reads_same c.args.text.now c.args.cluster found c.in-Ok.ensures.fits text c.if-found-cluster.false in
    inl (ap Ok (ap made (sym c.if-found-cluster.false)) ∙ sym is)

pub returns-clause-only : goal.returns-clause-only
returns-clause-only c = λ b f e h.
    let found : Point = record { cluster = c.in-Ok.point.0; place = c.in-Ok.point.1 } in
    let text = sym c.as_bytes.ensures.value ∙ c.in-Ok.ensures.ok in
    let same = point_of_text b found c.args.text.now f c.in-Ok.ensures.fits e text in
    let made : ℕ → Point = λ n. record { cluster = n; place = c.in-Ok.point.1 } in
    inl (ap Ok (ap made (sym c.if-found-cluster.false) ∙ sym same))

pub returns-clause-only_other : goal.returns-clause-only_other
returns-clause-only_other c = λ b f e h.
    let found : Point = record { cluster = c.in-Ok.point.0; place = c.in-Ok.point.1 } in
    let text = sym c.as_bytes.ensures.value ∙ c.in-Ok.ensures.ok in
    let same = point_of_text b found c.args.text.now f c.in-Ok.ensures.fits e text in
    absurd (h (ap (λ p. p.cluster) same ∙ c.if-found-cluster.false))

pub returns-in-Err-clause-value : goal.returns-in-Err-clause-value
returns-in-Err-clause-value c = error_read c.in-Err.error c.args.text.now c.args.cluster
    (λ e. subst IsNoText c.as_bytes.ensures.value (c.in-Err.ensures.bad_form (ap Err e)))
    (λ id e. c.in-Err.ensures.other id (ap Err e))
