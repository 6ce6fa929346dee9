-- A tree is what the numbered lines of a root file give.
use Rattle.std.proofs.{Common.{Err, List, Ok, Result, Some, [], ap, length, map, refl, subst, sym, ℕ, ◌∙◌, ◌∷◌, ◌≡◌, ◌≢◌}, lemmas.List.Elements.{All-append, All-head}}
use Rattle.std.specs.{List.{flat_map, slice_get}, Prelude.All}
use Rattle.kc_expr.specs.Names.{AreDistinct}
use Rattle.kc_language.specs.{Expansion.{Expands, Files, ReadSoFar, Refused, mentioned_names, numbered_lines, refusal_at}, Expressions.number_of, Statements.{Cause, EndChoiceLine, EndIfLine, EndMenuLine, Located, Named, Numbered, statements}, Symbols.{TreeFacts, bad_defaults, bad_members, defined_symbols, entry_name, entry_symbol, facts_with, listed, menu_entry_at, modules_symbol, refused_at, tree_with}, declared.statements.Block.Block}
use Rattle.kc_language.specs.declared.statements.Block.TheVariants as block
use Rattle.kc_diagnostics.specs.Causes.{owned_cause}
use Rattle.kc_language.specs.declared.diagnostics.Cause.TheVariants as cause
use Rattle.kc_read.specs.{Expansion.OneExpansion, RefusalView.{IsMemory, refusal_view}, declared.refusal.Refusal.Refusal}
use Rattle.kc_entries.specs.{Entries.lines_in, ListFacts.{AreBelow, AreChoicesApart, AreTypesDefined}, PartsOfExpansion.defined, PartsOfSymbols.{tree_of_lines, tree_of_log, unless_refused, whole_list_refusals}, WellFormed.IsWellFormed}
use Rattle.kc_build.specs.{Listings.IsListing, Nesting.{AreBlocksClosed, closed_block}, PartsView.parts_view, SelectorRows.AreTargetsBelow, Sound.AreSound, Trees.OneTree, declared.listing.Listing.Listing}
use Rattle.kc_tree.specs.{EntryViews.statements_in, declared.layout.TreeParts.TreeParts}
use Rattle.kc_read.proofs.{DefinedLemmas.{AreNames, expanded_allowed, expanded_known, numbered_typed}, ListShape.nested, NestLemmas.{choice_alone, closer_closes}, NumberingLemmas.numbered_below, TurnLemmas.{Leaves, turn}, WholeLemmas.{IsShaped, shaped, well_formed}}
use Rattle.kc_entries.proofs.ElementLemmas.{All-flat_map, All-map_each}
use Rattle.kc_build.proofs.TargetLemmas.{targets-below}

-- Each refusal of the whole list is of a member or of a default.
refusal_codes : (names : List (List ℕ)) (ls : List (Located Numbered)) → All (λ r. r.cause ≢ cause.Memory) (whole_list_refusals names ls)
refusal_codes names ls =
    All-append (λ r. r.cause ≢ cause.Memory) (flat_map (refused_at names ls cause.ChoiceMember) (bad_members line_statements))
    (flat_map (refused_at names ls cause.BadDefault) (bad_defaults line_statements))
    (All-flat_map (λ r. r.cause ≢ cause.Memory) (refused_at names ls cause.ChoiceMember) (one_code cause.ChoiceMember (λ n h. cc)) (bad_members line_statements))
    (All-flat_map (λ r. r.cause ≢ cause.Memory) (refused_at names ls cause.BadDefault) (one_code cause.BadDefault (λ n h. cc)) (bad_defaults line_statements))
  where
    line_statements : List Numbered
    line_statements = map (λ l. l.statement) ls

    one_code : (c : List ℕ → Cause) → ((n : List ℕ) → c n ≢ cause.Memory) → (i : ℕ) → All (λ r. r.cause ≢ cause.Memory) (refused_at names ls c i)
    one_code c ne i = All-map_each (λ (r : Refused). r.cause ≢ cause.Memory)
        (λ (l : Located Numbered). refusal_at (c (entry_name names (entry_symbol (menu_entry_at line_statements i)))) l.file l.line) (λ l. ne (entry_name names (entry_symbol (menu_entry_at line_statements i)))) (listed (slice_get ls i))

not_memory : (rs : List Refused) (t : TreeFacts) (v : Refused) → All (λ r. r.cause ≢ cause.Memory) rs → Err v ≡ unless_refused rs t → v.cause ≢ cause.Memory
not_memory [] t v a h = absurd cc
not_memory (r ∷ rs) t v a h =
    let same : v ≡ r = cc in
    subst (λ (x : Refused). x.cause ≢ cause.Memory) (sym same) (All-head (λ (r : Refused). r.cause ≢ cause.Memory) r rs a)

whole_by : (rs : List Refused) (t u : TreeFacts) → Ok t ≡ unless_refused rs u → (rs ≡ []) × (t ≡ u)
whole_by [] t u h = (refl, (let same : t ≡ u = cc in same))
whole_by (r ∷ rs) t u h = absurd cc

pub refused-memory : (ls : List (Located Named)) (r : Refusal) → Err (refusal_view r) ≡ tree_of_lines ls → IsMemory r
refused-memory ls r h m =
    absurd (not_memory (whole_list_refusals (mentioned_names (statements ls)) (numbered_lines ls))
    (facts_with (mentioned_names (statements ls)) (numbered_lines ls)) (refusal_view r)
    (refusal_codes (mentioned_names (statements ls)) (numbered_lines ls)) h (ap owned_cause m))

-- the tree that lines give is well formed
pub whole-formed : (ls : List (Located Named)) (t : TreeFacts) → AreNames (defined (statements ls)) → AreDistinct (mentioned_names (statements ls)) → IsShaped ls → Ok t ≡ tree_of_lines ls → IsWellFormed t
whole-formed ls t known distinct shaped h =
    let w = whole_by (whole_list_refusals (mentioned_names (statements ls)) (numbered_lines ls)) t
    (facts_with (mentioned_names (statements ls)) (numbered_lines ls)) h in
    subst IsWellFormed (sym w.1) (well_formed ls known distinct shaped w.0)

-- a line that closes a block leaves it
closes-turn : (s : Numbered) (b : Block) → closed_block s ≡ Some b → turn s ≡ Leaves b
closes-turn EndIfLine b h = ap Leaves (let same : block.If ≡ b = cc in same)
closes-turn EndMenuLine b h = ap Leaves (let same : block.Menu ≡ b = cc in same)
closes-turn EndChoiceLine b h = ap Leaves (let same : block.Choice ≡ b = cc in same)
closes-turn _ b h = absurd cc

-- what the numbered lines of an expanded list give
module _ (log : ReadSoFar) (l : Listing) (h : IsListing log l) where
  abbrev line_statements : List Numbered
  line_statements = map (λ x. x.statement) (numbered_lines log.lines)

  statements_here : line_statements ≡ statements_in l.entries
  statements_here = ap statements (sym h.lines_are)

  lines-below : AreBelow (length l.names) (statements_in l.entries)
  lines-below =
      subst (λ (ss : List Numbered). AreBelow (length l.names) ss) statements_here
      (subst (λ (ns : List (List ℕ)). AreBelow (length ns) line_statements) (sym h.names_are) (numbered_below log.lines))

  pub lines-define : l.defined.items ≡ defined_symbols (statements_in l.entries)
  lines-define = h.defined_are ∙ ap defined_symbols statements_here

  pub lines-modules : l.modules ≡ modules_symbol l.names (statements_in l.entries)
  lines-modules =
      h.modules_is ∙ ap (modules_symbol (mentioned_names (statements log.lines))) statements_here
      ∙ ap (λ (ns : List (List ℕ)). modules_symbol ns (statements_in l.entries)) (sym h.names_are)

  lines-apart : (files : Files) (root : List ℕ) → Expands files root (Ok log) → AreChoicesApart (statements_in l.entries)
  lines-apart files root x = subst AreChoicesApart statements_here (choice_alone line_statements (nested files root log x))

  lines-typed : (files : Files) (root : List ℕ) → Expands files root (Ok log) → AreTypesDefined (statements_in l.entries)
  lines-typed files root x =
      subst AreTypesDefined statements_here (numbered_typed (number_of (mentioned_names (statements log.lines))) log.lines (expanded_allowed files root log x))

  lines-closed : (files : Files) (root : List ℕ) → Expands files root (Ok log) → AreBlocksClosed (statements_in l.entries)
  lines-closed files root x =
      subst AreBlocksClosed statements_here (λ i s b at h. closer_closes line_statements (nested files root log x) i s b at (closes-turn s b h))

  lines-targets : AreTargetsBelow (length l.names) (statements_in l.entries)
  lines-targets =
      subst (λ (ss : List Numbered). AreTargetsBelow (length l.names) ss) statements_here
      (subst (λ (ns : List (List ℕ)). AreTargetsBelow (length ns) line_statements) (sym h.names_are) (targets-below log.lines))

  pub lines-sound : (files : Files) (root : List ℕ) → Expands files root (Ok log) → AreSound (length l.names) (statements_in l.entries)
  lines-sound files root x = record {
    below = lines-below;
    targets = lines-targets;
    types = lines-typed files root x;
    apart = lines-apart files root x;
    closed = lines-closed files root x;
  }

  pub parts-lines : (s : Result TreeParts Refusal) → parts_view l.names s ≡ tree_with l.names (lines_in l.entries) → parts_view l.names s ≡ tree_of_lines log.lines
  parts-lines s a =
      a
      ∙ ap (tree_with l.names) h.lines_are
      ∙ ap (λ (ns : List (List ℕ)). tree_with ns (numbered_lines log.lines)) h.names_are

  pub lines-formed : (files : Files) (root : List ℕ) (t : TreeFacts) → Expands files root (Ok log) → AreDistinct l.names → Ok t ≡ tree_of_lines log.lines → IsWellFormed t
  lines-formed files root t x d a =
      whole-formed log.lines t (expanded_known files root log x) (subst AreDistinct h.names_are d) (shaped files root log x) a

pub one-tree : OneExpansion → OneTree
one-tree one files root r other x y =
    let same : ◌≡◌ {A = Result ReadSoFar Refused} x.0 y.0 = one files root x.0 y.0 x.1 y.1 in
    x.2 ∙ ap tree_of_log same ∙ sym y.2
