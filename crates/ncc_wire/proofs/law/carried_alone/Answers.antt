use Rattle.ncc_wire.specs.Frames.{frame_bytes}
use Rattle.ncc_wire.proofs.Wholes.{carried_of, framed, is_frame, sent_of}
use Rattle.ncc_wire.proofs.law.carried_alone.Goals as goal

pub returns : goal.returns
returns c =
    record {
      alone =
          λ cluster e few. (
            λ h. (frame_bytes cluster e, is_frame cluster e (sent_of cluster e few h)),
            λ x. carried_of cluster e
                (framed cluster e x.0 x.1).sent,
          );
    }
