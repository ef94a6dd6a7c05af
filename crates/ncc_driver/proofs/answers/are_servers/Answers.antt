use Rattle.std.proofs.Common.{refl, sym, ◌∙◌}
use Rattle.ncc_driver.proofs.TableParts.{no_entries, servers_more, server_at, all_servers}
use Rattle.ncc_driver.proofs.answers.are_servers.Goals as goal

pub loop-value-init : goal.loop-value-init
loop-value-init c = no_entries

pub loop-value-preserved : goal.loop-value-preserved
loop-value-preserved c =
    servers_more _ _ _ c.loop-value-test.true c.value-item.is c.loop-value.invariant (c.is_server.ensures.0 c.if-not-is_server.false)

pub returns-then-not-is_server : goal.returns-then-not-is_server
returns-then-not-is_server c =
    (λ e. absurd (cc), λ n. sym c.if-not-is_server.true ∙ c.is_server.ensures.1 (server_at _ _ _ c.loop-value-test.true c.value-item.is n))

pub returns : goal.returns
returns c = (λ _. all_servers _ _ c.loop-value-test.false c.loop-value.invariant, λ _. refl)
