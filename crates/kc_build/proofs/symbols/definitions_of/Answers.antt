use Rattle.std.proofs.{Common.{ap, arith, length, refl, subst, suc, sym, ◌-◌, ◌∙◌, ◌≡◌}, lemmas.List.length-map}
use Rattle.kc_tree.specs.EntryViews.{entry_count}
use Rattle.kc_build.specs.SymbolsFound.{AreLinkedFrom, AreRowsFrom, unlinked}
use Rattle.kc_build.proofs.{ChangeLemmas.set_same, StandingLemmas.{no-entry, said-is}, SymbolLemmas.{config, linked-none, linked-some, next-is, no-config, rows-none, rows-some, symbol-there, with-said}}
use Rattle.kc_build.proofs.symbols.definitions_of.Goals as goal

pub index_mut-row-requires : goal.index_mut-row-requires
index_mut-row-requires c =
    let es = c.args.entries.now in
    let i = c.entries.left - 1 in
    let more : c.entries.left ≡ suc (c.entries.left - 1) = omega (arith, c.entries-test.true) in
    let rows = subst (λ n. AreRowsFrom c.args.entries.now n c.args.count c.entries.symbols.items) more c.entries.invariant.rows in
    let there = symbol-there es i c.args.count c.in-Config.symbol c.entries.symbols.items c.requires.below rows (config es i c.in-Some.lines c.in-Config.symbol c.in-Some.ensures c.in-Config.is) in
    omega (arith, there, c.entries.symbols.ok)

pub entries-preserved-in-Config : goal.entries-preserved-in-Config
entries-preserved-in-Config c =
    let es = c.args.entries.now in
    let i = c.entries.left - 1 in
    let s = c.in-Config.symbol in
    let row = c.index_mut-row.result.now in
    let place = c.index_mut.result.now in
    let more : c.entries.left ≡ suc (c.entries.left - 1) = omega (arith, c.entries-test.true) in
    let below = c.in-Some.ensures.there in
    let rows = subst (λ n. AreRowsFrom c.args.entries.now n c.args.count c.entries.symbols.items) more c.entries.invariant.rows in
    let linked = subst (λ n. AreLinkedFrom c.args.entries.now n c.entries.places.items) more c.entries.invariant.linked in
    let defines = config es i c.in-Some.lines s c.in-Some.ensures c.in-Config.is in
    let there = symbol-there es i c.args.count s c.entries.symbols.items c.requires.below rows defines in
    let size : length c.entries.places.items ≡ entry_count c.args.entries.now =
    sym (length-map c.entries.places.items unlinked) ∙ ap length c.entries.invariant.same ∙ length-map c.args.places.now.items unlinked ∙ c.requires.places in
    record {
      rows = rows-some es i c.args.count below c.entries.symbols.items rows s defines row there c.index_mut-row.ensures.value c.of.result c.add_definition.new.symbol c.of.ensures
          (c.add_definition.ensures.added ∙ with-said c.of.result row (said-is es i c.in-Some.lines c.in-Some.ensures));
      same = set_same unlinked c.entries.places.items i place _ c.index_mut.ensures.value refl ∙ c.entries.invariant.same;
      linked = linked-some es i c.entries.places.items linked s _ defines (omega (arith, size, below))
          (ap (λ (e : _). e.0) c.add_definition.ensures.next ∙ next-is es i c.args.count below c.entries.symbols.items rows s defines row there c.index_mut-row.ensures.value);
      within = omega (arith, below);
    }

pub entries-preserved-in_default-head : goal.entries-preserved-in_default-head
entries-preserved-in_default-head c =
    let es = c.args.entries.now in
    let i = c.entries.left - 1 in
    let more : c.entries.left ≡ suc (c.entries.left - 1) = omega (arith, c.entries-test.true) in
    let below = c.in-Some.ensures.there in
    let none = no-config es i c.in-Some.lines c.in-Some.ensures c.in_default-head.not-Config in
    record {
      rows = rows-none es i c.args.count below c.entries.symbols.items (subst (λ n. AreRowsFrom c.args.entries.now n c.args.count c.entries.symbols.items) more c.entries.invariant.rows) none;
      same = c.entries.invariant.same;
      linked = linked-none es i c.entries.places.items (subst (λ n. AreLinkedFrom c.args.entries.now n c.entries.places.items) more c.entries.invariant.linked) none;
      within = omega (arith, below);
    }

pub entries-preserved : goal.entries-preserved
entries-preserved c =
    let i = c.entries.left - 1 in
    absurd (let last = no-entry c.args.entries.now (c.entries.left - 1) (omega (arith, c.entries.invariant.within)) c.in_default.ensures in
    omega (arith, last, c.entries-test.true, c.entries.invariant.within))
