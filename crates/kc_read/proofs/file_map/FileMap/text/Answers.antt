use Rattle.std.proofs.Common.{◌∙◌, ap}
use Rattle.kc_language.specs.Expansion.{bytes_in}
use Rattle.kc_read.proofs.FileLemmas.{bytes_found}
use Rattle.kc_read.proofs.file_map.FileMap.text.Goals as goal

pub returns : goal.returns
returns c = c.get.ensures.value ∙ bytes_found c.self.inside.files.entries c.args.name.now ∙ ap (λ fs. bytes_in fs.entries c.args.name.now) c.self.view_is
