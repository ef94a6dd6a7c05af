use Rattle.std.proofs.Common.{ap, ◌∙◌, subst, ◌≡◌, ◌++◌}
use Rattle.ncc_bookmark.specs.Point.{Point}
use Rattle.ncc_bookmark.specs.Spelling.{text_of}
use Rattle.ncc_bookmark.proofs.Texts.{text_made}
use Rattle.ncc_bookmark.proofs.bookmark.Bookmark.text.Goals as goal

pub returns : goal.returns
returns c =
    let P : Point → Type 0 = λ p. c.push_str.new.self ≡ text_of p in
    record {
      text = subst P c.self.view_is
          (text_made (record { cluster = c.self.inside.cluster; place = c.self.inside.place })
          c.push_str.new.self c.as_str.result.now c.as_slice.result.now
          (c.in_ok-push_str.ensures.ok ∙ ap (λ t. t ++ c.as_str.result.now) c.in_ok-text.ensures.same)
          (c.as_str.ensures.value ∙ c.in_ok-encoded.ensures)
          (c.as_slice.ensures.value ∙ c.in_ok-bytes.ensures));
    }
