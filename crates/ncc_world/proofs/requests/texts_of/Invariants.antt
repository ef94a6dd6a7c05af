use Rattle.std.proofs.Common.{◌≡◌, ◌++◌, drop, map}
use Rattle.ncc_pack.specs.declared.value.Value.TheVariants as v
use Rattle.ncc_bookmark.specs.Spelling.{text_of}
use Rattle.ncc_world.proofs.requests.texts_of.Given as goal

-- the texts so far, and those of the bookmarks that are left
abbrev pub invariant-loop-bookmark : goal.invariant-loop-bookmark
invariant-loop-bookmark l =
    l.texts ++ map (λ b. v.Text (text_of b)) (drop l.bookmark-index l.bookmarks) ≡ map (λ b. v.Text (text_of b)) l.bookmarks
