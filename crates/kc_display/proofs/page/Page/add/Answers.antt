-- The line is shown.
use Rattle.std.proofs.Common.{◌∙◌, sym}
use Rattle.kc_display.proofs.PageLemmas.{add-page, page-empty}
use Rattle.kc_display.proofs.page.Page.add.Goals as goal

pub returns : goal.returns
returns c = λ lines is. add-page c.args.self.now _ lines c.add_line.new.text (page-empty c.args.self.now.count (sym c.is_full.ensures ∙ c.if-is_full.false)) c.in_ok-add_line.ensures is
