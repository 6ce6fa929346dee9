use Rattle.std.proofs.{Common.{Bool, subst, sym, ◌∙◌}, lemmas.Bool.true≢false}
use Rattle.std.specs.Prelude.{IfOk}
use Rattle.kc_read.specs.Files.{files_in}
use Rattle.kc_load.specs.{Folder.files_told, Loading.Suffices}
use Rattle.kc_load.proofs.FlatLemmas.{flat_enough_if, tree_enough}
use Rattle.kc_load.proofs.loading.load.Goals as goal

pub returns-then-is_flat-clause-loaded : goal.returns-then-is_flat-clause-loaded
returns-then-is_flat-clause-loaded g c = λ other. absurd (true≢false (sym c.if-is_flat.true ∙ other))

pub returns-then-is_flat-clause-loaded_flat : goal.returns-then-is_flat-clause-loaded_flat
returns-then-is_flat-clause-loaded_flat g c = λ same. c.load_flat.ensures.loaded

pub returns-then-is_flat-clause-enough : goal.returns-then-is_flat-clause-enough
returns-then-is_flat-clause-enough g c =
    subst (λ (b : Bool). IfOk c.load_flat.result (λ map. Suffices (files_told (g.F.Folder.state c.load_flat.new.folder)) c.args.dir.now c.args.kconfig.now b (files_in map))) (sym c.if-is_flat.true)
    (flat_enough_if _ _ _ c.load_flat.result c.utf8.kconfig c.load_flat.ensures.loaded)

pub returns-clause-loaded : goal.returns-clause-loaded
returns-clause-loaded g c = λ same. c.load_tree.ensures.loaded

pub returns-clause-loaded_flat : goal.returns-clause-loaded_flat
returns-clause-loaded_flat g c = λ other. absurd (true≢false (sym other ∙ c.if-is_flat.false))

pub returns-clause-enough : goal.returns-clause-enough
returns-clause-enough g c =
    subst (λ (b : Bool). IfOk c.load_tree.result (λ map. Suffices (files_told (g.F.Folder.state c.load_tree.new.folder)) c.args.dir.now c.args.kconfig.now b (files_in map))) (sym c.if-is_flat.false)
    (tree_enough _ _ _ c.load_tree.result c.load_tree.ensures.tree c.load_tree.ensures.enough)
