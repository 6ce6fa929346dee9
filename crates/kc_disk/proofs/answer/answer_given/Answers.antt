-- The arguments ask for a run, which ends so, or for none.
use Rattle.std.proofs.Common.{List, refl, subst, ℕ}
use Rattle.kc_conf.specs.Dead.{FolderListsDead}
use Rattle.kc_words.specs.CommandLine.{IsRequestOf, rows_for}
use Rattle.kc_words.specs.declared.options.Request.{Request}
use Rattle.kc_disk.specs.Program.{runs, none}
use Rattle.kc_words.specs.declared.options.Request.TheVariants as request
use Rattle.kc_disk.proofs.answer.answer_given.Goals as goal

pub returns-in-Ok-One : goal.returns-in-Ok-One
returns-in-Ok-One g c =
    runs (request.One c.in-Ok-One.options) (record { faultless = c.in-Ok-One.ensures.faultless; fields = subst (λ (r : Request). IsRequestOf (rows_for c.args.arguments.now) r) c.in-Ok-One.field-0-is c.in-Ok-One.ensures.ok }) c.answer_one.ensures

pub returns-in-Ok-Each : goal.returns-in-Ok-Each
returns-in-Ok-Each g c =
    runs (request.Each c.in-Ok-Each.each) (record { faultless = c.in-Ok-Each.ensures.faultless; fields = subst (λ (r : Request). IsRequestOf (rows_for c.args.arguments.now) r) c.in-Ok-Each.field-0-is c.in-Ok-Each.ensures.ok }) c.run_each_in_folder.ensures

pub returns-in-Ok-Dead : goal.returns-in-Ok-Dead
returns-in-Ok-Dead g c =
    runs (request.Dead c.in-Ok-Dead.dead) (record { faultless = c.in-Ok-Dead.ensures.faultless; fields = subst (λ (r : Request). IsRequestOf (rows_for c.args.arguments.now) r) c.in-Ok-Dead.field-0-is c.in-Ok-Dead.ensures.ok })
    (subst
    (λ (file : List ℕ). FolderListsDead c.in-Ok-Dead.dead.options file (g.F.Folder.state c.args.folder.now) (g.F.Folder.state c.list_dead_in_folder.new.folder) (g.D.Device.log c.args.device.now) (g.D.Device.log c.list_dead_in_folder.new.device) c.list_dead_in_folder.result)
    c.as_str-file.ensures.value c.list_dead_in_folder.ensures)

pub returns-in-Ok-How : goal.returns-in-Ok-How
returns-in-Ok-How g c =
    runs (request.How c.in-Ok-How.how) (record { faultless = c.in-Ok-How.ensures.faultless; fields = subst (λ (r : Request). IsRequestOf (rows_for c.args.arguments.now) r) c.in-Ok-How.field-0-is c.in-Ok-How.ensures.ok }) c.answer_how.ensures

pub returns-in-Ok-HowEach : goal.returns-in-Ok-HowEach
returns-in-Ok-HowEach g c =
    runs (request.HowEach c.in-Ok-HowEach.how) (record { faultless = c.in-Ok-HowEach.ensures.faultless; fields = subst (λ (r : Request). IsRequestOf (rows_for c.args.arguments.now) r) c.in-Ok-HowEach.field-0-is c.in-Ok-HowEach.ensures.ok }) c.ask_each_in_folder.ensures

pub returns-in-Err : goal.returns-in-Err
returns-in-Err g c = none c.in-Err.usage (c.in-Err.ensures.refused, c.in-Err.ensures.taken) c.print_usage.ensures.status c.print_usage.ensures.says refl
