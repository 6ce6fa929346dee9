use Rattle.std.proofs.{Common.{[], ap, arith, subst, sym, ℕ, ◌∙◌, ◌≡◌}, lemmas.Result.err_from_is_err_and}
use Rattle.std.specs.declared.{alloc.Global.Global, vec.Vec.Vec}
use Rattle.kc_load.specs.Steps.{State, state_of}
use Rattle.kc_load.proofs.{EndLemmas.{falls, fits, is_over, none_waits, not_over}, FolderLemmas.{leads_nothing, leads_on}, ListLemmas.popped_last, SoFar.{SoFar, at_fault, at_start, enough_at_end, enough_over, loaded_at_end, loaded_over, turned}}
use Rattle.kc_load.proofs.loading.load_tree.Goals as goal

pub loop-name-init : goal.loop-name-init
loop-name-init g c = record {
  so_far = subst (λ (s : State). SoFar (g.F.Folder.state c.args.folder.now) c.args.dir.now c.args.kconfig.now s) (sym c.in_ok-loading.ensures.state)
      (at_start _ c.args.dir.now c.args.kconfig.now);
  within = let none : c.in_ok-loading.loading.lines ≡ 0 = ap (λ s. s.lines) c.in_ok-loading.ensures.state in omega arith;
  leads = leads_nothing _;
  tree = c.in_ok-loading.ensures.tree;
}

pub loop-name-preserved : goal.loop-name-preserved
loop-name-preserved g c =
    let i = c.loop-name.invariant in
    record {
      so_far = turned (g.F.Folder.state c.loop-name.folder) c.args.dir.now c.args.kconfig.now (state_of c.loop-name.loading) i.so_far i.within (g.F.Folder.state c.visit.new.folder) [] c.in_ok-visit.ensures.leads _ c.in-Some.name.items
          (popped_last (λ (v : Vec ℕ Global). v.items) c.pop.new.self.items c.in-Some.name _ c.in-Some.ensures.items) (state_of c.visit.new.self)
          c.in_ok-visit.ensures.ok;
      within = not_over _ c.if-is_over.ensures;
      leads = leads_on _ _ _ [] i.leads c.in_ok-visit.ensures.leads;
      tree = c.in_ok-visit.ensures.tree ∙ i.tree;
    }

pub loop-name-smaller : goal.loop-name-smaller
loop-name-smaller g c =
    let i = c.loop-name.invariant in
    falls _ _ (state_of c.loop-name.loading) _ c.in-Some.name.items (state_of c.visit.new.self)
    (popped_last (λ (v : Vec ℕ Global). v.items) c.pop.new.self.items c.in-Some.name _ c.in-Some.ensures.items) i.within (not_over _ c.if-is_over.ensures)
    (fits c.visit.new.self.waiting) c.in_ok-visit.ensures.ok

pub returns-in_err-visit-clause-fault : goal.returns-in_err-visit-clause-fault
returns-in_err-visit-clause-fault g c =
    let i = c.loop-name.invariant in
    let p = err_from_is_err_and c.from_residual-in_err-visit.result c.from_residual-in_err-visit.ensures.1 in
    rw (p.1, p.2) (at_fault (g.F.Folder.state c.loop-name.folder) c.args.dir.now c.args.kconfig.now (state_of c.loop-name.loading) i.so_far i.within (g.F.Folder.state c.visit.new.folder) _ c.in_err-visit.ensures.leads _ c.in-Some.name.items
    (popped_last (λ (v : Vec ℕ Global). v.items) c.pop.new.self.items c.in-Some.name _ c.in-Some.ensures.items) c.in_err-visit.field-0.0 c.in_err-visit.ensures.err)

pub returns-in_err-visit-clause-leads : goal.returns-in_err-visit-clause-leads
returns-in_err-visit-clause-leads g c =
    let p = err_from_is_err_and c.from_residual-in_err-visit.result c.from_residual-in_err-visit.ensures.1 in
    rw (p.1, p.2) (leads_on _ _ _ _ c.loop-name.invariant.leads c.in_err-visit.ensures.leads)

pub returns-then-is_over-clause-loaded : goal.returns-then-is_over-clause-loaded
returns-then-is_over-clause-loaded g c =
    let i = c.loop-name.invariant in
    loaded_over _ _ _ (state_of c.visit.new.self) (turned (g.F.Folder.state c.loop-name.folder) c.args.dir.now c.args.kconfig.now (state_of c.loop-name.loading) i.so_far i.within (g.F.Folder.state c.visit.new.folder) [] c.in_ok-visit.ensures.leads _ c.in-Some.name.items
    (popped_last (λ (v : Vec ℕ Global). v.items) c.pop.new.self.items c.in-Some.name _ c.in-Some.ensures.items) (state_of c.visit.new.self)
    c.in_ok-visit.ensures.ok) (is_over _ c.if-is_over.ensures)

pub returns-then-is_over-clause-enough : goal.returns-then-is_over-clause-enough
returns-then-is_over-clause-enough g c =
    let i = c.loop-name.invariant in
    enough_over _ _ _ (state_of c.visit.new.self) (turned (g.F.Folder.state c.loop-name.folder) c.args.dir.now c.args.kconfig.now (state_of c.loop-name.loading) i.so_far i.within (g.F.Folder.state c.visit.new.folder) [] c.in_ok-visit.ensures.leads _ c.in-Some.name.items
    (popped_last (λ (v : Vec ℕ Global). v.items) c.pop.new.self.items c.in-Some.name _ c.in-Some.ensures.items) (state_of c.visit.new.self)
    c.in_ok-visit.ensures.ok) (is_over _ c.if-is_over.ensures)

pub returns-then-is_over-clause-leads : goal.returns-then-is_over-clause-leads
returns-then-is_over-clause-leads g c = leads_on _ _ _ [] c.loop-name.invariant.leads c.in_ok-visit.ensures.leads

pub returns-clause-loaded : goal.returns-clause-loaded
returns-clause-loaded g c =
    loaded_at_end _ _ _ (state_of c.loop-name.loading) c.loop-name.invariant.so_far (none_waits c.loop-name.loading.waiting c.in_default.ensures.cases.0)

pub returns-clause-enough : goal.returns-clause-enough
returns-clause-enough g c =
    enough_at_end _ _ _ (state_of c.loop-name.loading) c.loop-name.invariant.so_far (none_waits c.loop-name.loading.waiting c.in_default.ensures.cases.0)

pub returns-clause-leads : goal.returns-clause-leads
returns-clause-leads g c = c.loop-name.invariant.leads

pub returns-then-is_over-clause-tree : goal.returns-then-is_over-clause-tree
returns-then-is_over-clause-tree g c = c.in_ok-visit.ensures.tree ∙ c.loop-name.invariant.tree
