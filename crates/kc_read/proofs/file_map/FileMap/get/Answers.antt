use Rattle.std.proofs.Common.{◌∙◌, ap, Some}
use Rattle.kc_read.proofs.file_map.FileMap.get.Goals as goal

pub returns-in_err-text : goal.returns-in_err-text
returns-in_err-text c = rw c.from_residual.ensures c.in_err-text.ensures

pub returns : goal.returns
returns c = ap Some c.bytes.ensures ∙ c.in_ok-text.ensures
