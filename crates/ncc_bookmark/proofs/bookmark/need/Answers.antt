use Rattle.std.proofs.Common.{◌≡◌, sym, subst, ℕ, All, Any, ◌≤◌, ◌⊎◌}
use Rattle.ncc_bookmark.proofs.Greatest.{greatest_covers, greatest_reached}
use Rattle.ncc_bookmark.proofs.bookmark.need.Goals as goal

pub returns-clause-covers : goal.returns-clause-covers
returns-clause-covers c =
    let P : ℕ → Type 0 = λ n. All (λ b. b.place ≤ n) c.args.bookmarks.now in
    subst P (sym c.greatest.ensures) (greatest_covers c.args.bookmarks.now)

pub returns-clause-reached : goal.returns-clause-reached
returns-clause-reached c =
    let P : ℕ → Type 0 = λ n. (n ≡ 0) ⊎ Any (λ b. b.place ≡ n) c.args.bookmarks.now in
    subst P (sym c.greatest.ensures) (greatest_reached c.args.bookmarks.now)
