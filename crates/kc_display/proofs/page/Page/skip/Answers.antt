-- The line is counted.
use Rattle.kc_display.proofs.PageLemmas.{skip-page}
use Rattle.kc_display.proofs.page.Page.skip.Goals as goal

pub returns : goal.returns
returns c = λ line lines is. skip-page c.args.self.now line lines c.saturating_add-self.result c.requires c.saturating_add-self.ensures is
