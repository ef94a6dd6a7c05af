-- The line that a client writes where its work was committed.
use Rattle.std.specs.Prelude.{ℕ, List, ◌++◌, codes, decimal}
use Rattle.ncc_driver.specs.declared.action.WorkDone.{WorkDone}
use Rattle.ncc_driver.specs.RowText.{text_of}

-- `ok`, the attempts, the bookmark and the rows, with one space between
abbrev pub line_of : WorkDone → List ℕ
line_of done =
    codes "ok " ++ (decimal done.attempts ++ (codes " " ++ (done.bookmark ++ (codes " " ++ (text_of done.rows ++ codes "\n")))))
