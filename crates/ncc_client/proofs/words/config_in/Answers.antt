use Rattle.ncc_client.proofs.Named.{config_good}
use Rattle.ncc_client.proofs.words.config_in.Goals as goal

pub returns-clause-fits : goal.returns-clause-fits
returns-clause-fits c =
    config_good (record { routers = c.in_ok-routers_in.field-0; auth = c.in_ok-login.field-0; seed = c.args.seed; bookmarks = c.in_ok-bookmarks_in.field-0 })
    c.args.user.now c.args.password.now c.args.bookmark.now c.args.router.now c.requires.user_fits c.requires.password_fits
    c.requires.bookmark_fits c.requires.router_fits c.in_ok-login.ensures c.in_ok-bookmarks_in.ensures c.in_ok-routers_in.ensures
