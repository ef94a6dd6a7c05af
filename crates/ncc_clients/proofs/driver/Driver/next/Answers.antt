use Rattle.std.proofs.Common.{subst, sym}
use Rattle.ncc_clients.specs.Held.{Held, IsDriver}
use Rattle.ncc_clients.proofs.Holding.{handed, none_left}
use Rattle.ncc_clients.proofs.driver.Driver.next.Goals as goal

pub returns-in_ok-act-in-Some-clause-some : goal.returns-in_ok-act-in-Some-clause-some
returns-in_ok-act-in-Some-clause-some c = λ d left i.
    let s = c.self.inside in
    let h = handed s.session c.next.new.self s.task s.link s.wakes c.in-Some.action d left c.in-Some.ensures.some
    (subst (λ (x : Held). IsDriver x d left) (sym c.self.view_is) i) in
    let a = c.in_ok-act-in-Some.ensures.ok d c.next.new.self.queue h.1 in
    record { action = c.in-Some.action; behind = c.next.new.self.queue; first_is = h.0; done = a.0; effect_is = a.1 }

pub returns-in-None-clause-none : goal.returns-in-None-clause-none
returns-in-None-clause-none c = λ d left i.
    none_left _ d left c.in-None.ensures.all (subst (λ (x : Held). IsDriver x d left) (sym c.self.view_is) i)
