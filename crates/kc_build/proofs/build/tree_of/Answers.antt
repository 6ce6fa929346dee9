use Rattle.std.proofs.Common.{Err, Ok, ap, arith, ◌∙◌, ◌≡◌}
use Rattle.kc_entries.specs.Entries.{lines_in}
use Rattle.kc_tree.specs.TreeView.{tree_of as facts_of}
use Rattle.kc_build.specs.PartsView.{AreNamed, parts_view}
use Rattle.kc_language.specs.Symbols.{tree_with}
use Rattle.kc_build.proofs.{BuildLemmas.{lines-define, lines-formed, lines-modules, lines-sound, parts-lines, refused-memory}, ListingLemmas.listing-few}
use Rattle.kc_build.proofs.build.tree_of.Goals as goal

pub build_parts-requires-clause-lines : goal.build_parts-requires-clause-lines
build_parts-requires-clause-lines c =
    let (files, root, x) = c.requires in
    lines-sound x.0 c.args.listing x.2 files root x.1

pub build_parts-requires-clause-defined : goal.build_parts-requires-clause-defined
build_parts-requires-clause-defined c =
    let (files, root, x) = c.requires in
    lines-define x.0 c.args.listing x.2

pub build_parts-requires-clause-modules : goal.build_parts-requires-clause-modules
build_parts-requires-clause-modules c =
    let (files, root, x) = c.requires in
    lines-modules x.0 c.args.listing x.2

pub build_parts-requires-clause-few : goal.build_parts-requires-clause-few
build_parts-requires-clause-few c =
    let (files, root, x) = c.requires in
    let few = listing-few files root x.0 c.args.listing x.1 x.2 in
    omega (arith, few)

pub of-requires-clause-formed : goal.of-requires-clause-formed
of-requires-clause-formed c =
    let (files, root, x) = c.requires in
    let l = c.args.listing in
    let parts = c.in-Ok-outcome.parts in
    let says : parts_view l.names (Ok parts) ≡ tree_with l.names (lines_in l.entries) = (rw c.in-Ok-outcome.is at c.in-Ok.ensures.parts) in
    lines-formed x.0 l x.2 files root (facts_of l.names parts) x.1 c.are_distinct.ensures
    (parts-lines x.0 l x.2 (Ok parts) says)

pub of-requires-clause-named : goal.of-requires-clause-named
of-requires-clause-named c =
    let named : AreNamed c.args.listing.names (Ok c.in-Ok-outcome.parts) = (rw c.in-Ok-outcome.is at c.in-Ok.ensures.named) in
    named

pub returns-in-Ok-outcome-clause-built : goal.returns-in-Ok-outcome-clause-built
returns-in-Ok-outcome-clause-built c = λ files root x.
    let l = c.args.listing in
    let parts = c.in-Ok-outcome.parts in
    let says : parts_view l.names (Ok parts) ≡ tree_with l.names (lines_in l.entries) = (rw c.in-Ok-outcome.is at c.in-Ok.ensures.parts) in
    (Ok x.0, x.1, ap Ok c.of.ensures ∙ parts-lines x.0 l x.2 (Ok parts) says)

pub returns-in-Err-outcome-clause-refused : goal.returns-in-Err-outcome-clause-refused
returns-in-Err-outcome-clause-refused c = λ ne files root x.
    let l = c.args.listing in
    let r = c.in-Err-outcome.refusal in
    let says : parts_view l.names (Err r) ≡ tree_with l.names (lines_in l.entries) = (rw c.in-Err-outcome.is at c.in-Ok.ensures.parts) in
    (Ok x.0, x.1, parts-lines x.0 l x.2 (Err r) says)

pub returns-in-Err-outcome-clause-memory : goal.returns-in-Err-outcome-clause-memory
returns-in-Err-outcome-clause-memory c =
    let (files, root, x) = c.requires in
    let l = c.args.listing in
    let r = c.in-Err-outcome.refusal in
    let says : parts_view l.names (Err r) ≡ tree_with l.names (lines_in l.entries) = (rw c.in-Err-outcome.is at c.in-Ok.ensures.parts) in
    refused-memory x.0.lines r (parts-lines x.0 l x.2 (Err r) says)
