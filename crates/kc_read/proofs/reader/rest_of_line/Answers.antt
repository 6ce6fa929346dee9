use Rattle.std.proofs.Common.{refl}
use Rattle.kc_language.specs.Statements.{EndIfLine, EndMenuLine, EndChoiceLine, HelpLine, ModulesLine}
use Rattle.kc_read.proofs.reader.rest_of_line.Goals as goal

pub returns-in-Config-clause-read : goal.returns-in-Config-clause-read
returns-in-Config-clause-read c = rw c.in-Config.is (c.config_line.ensures.read)

pub returns-in-EndIf-clause-read : goal.returns-in-EndIf-clause-read
returns-in-EndIf-clause-read c = rw c.in-EndIf.is (c.end_line.ensures EndIfLine c.args.names.now (record { mentions = refl; form = λ later x. refl }))

pub returns-in-EndMenu-clause-read : goal.returns-in-EndMenu-clause-read
returns-in-EndMenu-clause-read c = rw c.in-EndMenu.is (c.end_line-in-EndMenu.ensures EndMenuLine c.args.names.now (record { mentions = refl; form = λ later x. refl }))

pub returns-in-EndChoice-clause-read : goal.returns-in-EndChoice-clause-read
returns-in-EndChoice-clause-read c = rw c.in-EndChoice.is (c.end_line-in-EndChoice.ensures EndChoiceLine c.args.names.now (record { mentions = refl; form = λ later x. refl }))

pub returns-in-Help-clause-read : goal.returns-in-Help-clause-read
returns-in-Help-clause-read c = rw c.in-Help.is (c.end_line-in-Help.ensures HelpLine c.args.names.now (record { mentions = refl; form = λ later x. refl }))

pub returns-in-Modules-clause-read : goal.returns-in-Modules-clause-read
returns-in-Modules-clause-read c = rw c.in-Modules.is (c.end_line-in-Modules.ensures ModulesLine c.args.names.now (record { mentions = refl; form = λ later x. refl }))

pub returns-in-Comment-clause-read : goal.returns-in-Comment-clause-read
returns-in-Comment-clause-read c = rw c.in-Comment.is (c.comment_line.ensures c.args.names.now)

pub returns-in-Source-clause-read : goal.returns-in-Source-clause-read
returns-in-Source-clause-read c = rw c.in-Source.is (c.source_line.ensures c.args.names.now)

pub returns-in-Menu-clause-read : goal.returns-in-Menu-clause-read
returns-in-Menu-clause-read c = rw c.in-Menu.is (c.menu_line.ensures c.args.names.now)

pub returns-in-Choice-clause-read : goal.returns-in-Choice-clause-read
returns-in-Choice-clause-read c = rw c.in-Choice.is (c.choice_line.ensures c.args.names.now)

pub returns-in-MainMenu-clause-read : goal.returns-in-MainMenu-clause-read
returns-in-MainMenu-clause-read c = rw c.in-MainMenu.is (c.main_menu_line.ensures c.args.names.now)

pub returns-in-Option-clause-read : goal.returns-in-Option-clause-read
returns-in-Option-clause-read c = rw c.in-Option.is (c.option_line.ensures c.args.names.now)

pub returns-in-Default-clause-read : goal.returns-in-Default-clause-read
returns-in-Default-clause-read c = rw c.in-Default.is c.default_line.ensures.read

pub returns-in-Def-clause-read : goal.returns-in-Def-clause-read
returns-in-Def-clause-read c = rw c.in-Def.is c.def_line.ensures.read
