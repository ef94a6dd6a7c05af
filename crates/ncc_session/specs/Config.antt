-- Which configurations a session may be made of.
use Rattle.std.specs.Prelude.{Bool, false, ◌&&◌, nat_le, List, length}
use Rattle.std.specs.List.{list_all}
use Rattle.ncc_pack.specs.declared.value.Value.{Value}
use Rattle.ncc_pack.specs.declared.value.Value.TheVariants as v
use Rattle.ncc_pack.specs.Fits.{fits}
use Rattle.ncc_route.specs.declared.members.Members.{Members}
use Rattle.ncc_session.specs.declared.config.ConnConfig.{ConnConfig}

-- an address is a text that has a spelling
unfoldable pub address_fits : Value → Bool
address_fits (v.Text t) = fits (v.Text t)
address_fits _ = false

abbrev pub addresses_fit : List Value → Bool
addresses_fit values = list_all address_fits values

-- all addresses fit, of at most 7 cores and 16 replicas
abbrev pub members_allowed : Members → Bool
members_allowed m = addresses_fit m.cores && addresses_fit m.replicas && nat_le (length m.cores) 7 && nat_le (length m.replicas) 16

-- and a table may be used for at most a day
abbrev pub config_allowed : ConnConfig → Bool
config_allowed c = members_allowed c.members && nat_le c.ttl 86_400
