use Rattle.std.proofs.Common.{◌≡◌, max, drop}
use Rattle.ncc_bookmark.specs.Point.{greatest_place}
use Rattle.ncc_bookmark.proofs.bookmark.greatest.Given as goal

-- the greatest so far and that of the rest make the greatest of all
abbrev pub invariant-loop-bookmark : goal.invariant-loop-bookmark
invariant-loop-bookmark l = max l.most (greatest_place (drop l.bookmark-index l.bookmarks)) ≡ greatest_place l.bookmarks
