-- Which configurations a session may be made of.
use Rattle.std.specs.Prelude.{Bool, true, false, not, ◌&&◌, nat_le, List, length, ◌==◌}
use Rattle.std.specs.List.{list_all}
use Rattle.ncc_pack.specs.declared.value.Value.{Value}
use Rattle.ncc_pack.specs.declared.value.Value.TheVariants as v
use Rattle.ncc_pack.specs.Fits.{fits}
use Rattle.ncc_route.specs.declared.auth.Auth.{Auth}
use Rattle.ncc_route.specs.declared.auth.Auth.TheVariants.{Nobody, Basic}
use Rattle.ncc_driver.specs.declared.config.SessionConfig.{SessionConfig}

-- a text that has a spelling
unfoldable pub text_has_spelling : Value → Bool
text_has_spelling (v.Text t) = fits (v.Text t)
text_has_spelling _ = false

abbrev pub texts_fit : List Value → Bool
texts_fit values = list_all text_has_spelling values

abbrev pub auth_fits : Auth → Bool
auth_fits Nobody = true
auth_fits (Basic user password) = fits (v.Text user) && fits (v.Text password)

-- There is a router, and there are at most 256 bookmarks; both are texts alone, and all texts have a spelling.
abbrev pub config_fits : SessionConfig → Bool
config_fits c =
    not (length c.routers == 0) && nat_le (length c.bookmarks) 256 && texts_fit c.routers && texts_fit c.bookmarks && auth_fits c.auth
