use Rattle.std.proofs.Common.{arith}
use Rattle.std.proofs.KnownBytes.{Appends-nil, Consumes-nil}
use Rattle.ncc_server.proofs.Lists.{tells_none, clock_none}
use Rattle.ncc_server.proofs.Turning.{never_begun, consumed_few, own_end}
use Rattle.ncc_server.proofs.serving.serve_conn.Goals as goal

pub returns-in-Err-clause-served : goal.returns-in-Err-clause-served
returns-in-Err-clause-served g c = never_begun _ _ _ _ _ _ _ _ (Consumes-nil _) (Appends-nil _) (tells_none _) (clock_none _)

pub returns-clause-completes : goal.returns-clause-completes
returns-clause-completes g c = λ all e few source sink backend.
    own_end _ _ _ _ _ _ _ _ c.serve.result (c.serve.ensures.served c.args.config c.in-Ok.ensures.made)
    (λ bytes h. let k = consumed_few _ _ bytes all e h in omega arith) (λ i. source (c.serve.ensures.read_fault i)) (λ i. sink
    (c.serve.ensures.write_fault i))
    (λ i. backend (c.serve.ensures.backend_fault i))
