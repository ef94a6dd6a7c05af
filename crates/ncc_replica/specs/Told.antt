-- What is told of items that are not taken.
use Rattle.std.specs.Prelude.{Option, Some, None}
use Rattle.ncc_raft.specs.Pulled.{Taken, Grown, Gap, Stale, Contradicted}
use Rattle.ncc_replica.specs.declared.replica.TakeError.{TakeError}
use Rattle.ncc_replica.specs.declared.replica.TakeError.TheVariants as error

abbrev pub told : Taken → Option TakeError
told (Grown log) = None
told (Gap have first) = Some (error.Gap have first)
told (Stale have last) = Some (error.Stale have last)
told (Contradicted x) = Some (error.Contradicted x.place x.kept x.told)
