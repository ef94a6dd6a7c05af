-- What a world keeps, as its contracts see it.
use Rattle.std.specs.Prelude.{◌≡◌}
use Rattle.ncc_world.specs.declared.world.Standing as declared
use Rattle.ncc_world.specs.declared.world.Standing.TheVariants as standing
use Rattle.ncc_world.specs.declared.world.World.TheInside.{Inside}
use Rattle.ncc_world.specs.Setting.{IsSetup}
use Rattle.ncc_world.specs.World.{Kept, Standing, alive, past, spent}
use Rattle.ncc_world.specs.Parts.{HasAll, drivers_in, run_in}

abbrev pub standing_of : declared.Standing → Standing
standing_of standing.Alive = alive
standing_of (standing.Past which) = past which
standing_of standing.Spent = spent

abbrev pub kept_of : Inside → Kept
kept_of w = record { setup = w.setup; standing = standing_of w.standing; run = run_in w.run; drivers = drivers_in w.run.drivers }

-- its cluster may be, and while it goes on it stands for some run
pub record IsSound (w : Inside) : Type 0 where
  pub allowed : IsSetup w.setup
  pub live : standing_of w.standing ≡ alive → HasAll w.setup w.run
