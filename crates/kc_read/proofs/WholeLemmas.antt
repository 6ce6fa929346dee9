-- What holds of every tree.
use Rattle.std.proofs.{Common.{Bool, List, None, Ok, Option, Some, [], ap, arith, false, get_or, if◌then◌else◌, length, map, nat_le, refl, subst, suc, sym, true, zero, ℕ, ◌&&◌, ◌++◌, ◌<◌, ◌||◌, ◌∙◌, ◌∷◌, ◌≡◌, ◌≢◌}, lemmas.{Bool.Decides.nat_tests, List.Elements.{All-cons, All-from_recursion, All-head, All-nil, Contains-get_or, filter_passes}, Option.{slice_get-map, slice_get_within}}}
use Rattle.std.specs.{List.{AllByRecursion, IsDistinct, flat_map, list_all, list_any, slice_get}, Prelude.{All, Contains, option_map}}
use Rattle.kc_language.specs.{Expansion.{Expands, Files, ReadSoFar, Refused, definitions, mentioned_names, numbered_lines, refusal_at}, Expressions.{if_word, is_name_byte, number_of, same_name, symbol}, Statements.{Cause, Located, Named, Numbered, is_good_name, statements}, Symbols.{Condition, EndShown, MenuShown, SymbolFacts, TreeFacts, bad_defaults, bad_members, choice_of, enclosing_choice, entry_name, entry_symbol, facts_with, indices, is_first_definition_at, listed, menu_entry_at, modules_symbol, of_block, refused_at, symbol_facts, type_of}, declared.expressions.SymId.SymId}
use Rattle.kc_expr.specs.{Names.AreDistinct, PartsOfExpressions.is_tristate_constant, PartsOfSymbols.stands_in}
use Rattle.kc_entries.specs.{PartsOfExpansion.defined, PartsOfSymbols.{entries, is_bad_member, symbol_if, whole_list_refusals}, WellFormed.{IsMentioned, IsSymbolName, IsWellFormed}}
use Rattle.kc_expr.proofs.NamesLemmas.{same_name-refl}
use Rattle.kc_language.specs.declared.expressions.SymbolType.TheVariants as symbol_type
use Rattle.kc_language.specs.declared.diagnostics.Cause.TheVariants as cause
use Rattle.kc_language.specs.declared.statements.Block.TheVariants as block
use Rattle.kc_read.proofs.{BlockLemmas.first_nil, DefinedLemmas.AreNames, EntrySoundLemmas.entries_sound, FormedLemmas.{all_sound, facts_at, mentioned_if}, ListShape.{choices_alone, ends_name_menus}, MemberSoundLemmas.{all_listed, choices_sound}, NameLemmas.known_at, NumberingLemmas.{as_many_defined, config_of, defined_at, mentioned_known, numbered_below}, ReadTextLemmas.{IsInLines, expanded_lines}, ShownLemmas.shows_each, TreeTextLemmas.line_texts}
use Rattle.kc_entries.proofs.{ElementLemmas.{All-at, found_is}, PlaceLemmas.length-map_numbers, SymbolListLemmas.{defined-once, defined_line, prompted_is_defined, typed_is_defined}}

-- Names that differ stand at one place each.
apart_at : (x name : List ℕ) (xs : List (List ℕ)) (i : ℕ) → AllByRecursion (λ y. same_name x y ≡ false) xs → slice_get xs i ≡ Some name → same_name x name ≡ false
apart_at x name xs i a h = All-at (λ y. same_name x y ≡ false) xs i name (All-from_recursion (λ y. same_name x y ≡ false) xs a) h

not_both : (x name : List ℕ) (xs : List (List ℕ)) (i : ℕ) → AllByRecursion (λ y. same_name x y ≡ false) xs → slice_get xs i ≡ Some name → x ≡ name → ⊥
not_both x name xs i a h e =
    let no = apart_at x name xs i a h in
    let yes : same_name x name ≡ true = ap (same_name x) (sym e) ∙ same_name-refl x in
    (let f : false ≡ true = sym no ∙ yes in cc)

names_differ : (names : List (List ℕ)) → AreDistinct names → (i j : ℕ) (name : List ℕ) → slice_get names i ≡ Some name → slice_get names j ≡ Some name → i ≡ j
unfolding IsDistinct
names_differ [] d i j name e f = absurd cc
names_differ (x ∷ xs) d zero zero name e f = refl
names_differ (x ∷ xs) d zero (suc j) name e f = absurd (not_both x name xs j d.0 f (let same : x ≡ name = cc in same))
names_differ (x ∷ xs) d (suc i) zero name e f = absurd (not_both x name xs i d.0 e (let same : x ≡ name = cc in same))
names_differ (x ∷ xs) d (suc i) (suc j) name e f = ap suc (names_differ xs d.1 i j name e f)

-- A name that a symbol may have.
pass_first : (p : ℕ → Bool) (x : ℕ) (xs : List ℕ) (b : Bool) → p x ≡ b → (b && list_all p xs) ≡ true → (list_all p xs ≡ true → All (λ b. p b ≡ true) xs) → All (λ b. p b ≡ true) (x ∷ xs)
pass_first p x xs true e f rest = All-cons (λ b. p b ≡ true) x xs e (rest f)
pass_first p x xs false e f rest = absurd cc

all_pass : (p : ℕ → Bool) (xs : List ℕ) → list_all p xs ≡ true → All (λ b. p b ≡ true) xs
all_pass p [] h = All-nil (λ b. p b ≡ true)
all_pass p (x ∷ xs) h = pass_first p x xs (p x) refl h (all_pass p xs)

name_by : (name : List ℕ) (a b c d : Bool) → nat_le 1 (length name) ≡ b → nat_le (length name) 255 ≡ c → list_all is_name_byte name ≡ d →
    (if a then false else (b && c && d)) ≡ true → IsSymbolName name
name_by name false true true true l s p h = record {
  some = grind (arith, nat_tests);
  short = grind (arith, nat_tests);
  bytes = all_pass is_name_byte name p;
}
name_by name true b c d l s p h = absurd cc
name_by name false false c d l s p h = absurd cc
name_by name false true false d l s p h = absurd cc
name_by name false true true false l s p h = absurd cc

good_is : (name : List ℕ) → is_good_name name ≡ true → IsSymbolName name
good_is name h = name_by name (same_name name if_word || is_tristate_constant name) (nat_le 1 (length name)) (nat_le (length name) 255) (list_all is_name_byte name) refl refl refl h

-- Where nothing is refused, no member is bad.
map_none : {A B : Type 0} (f : A → B) (xs : List A) → map f xs ≡ [] → xs ≡ []
map_none f [] h = refl
map_none f (x ∷ xs) h = absurd cc

listed_none : {A : Type 0} (o : Option A) → listed o ≡ [] → o ≡ None
listed_none None h = refl
listed_none (Some x) h = absurd cc

module _ (names : List (List ℕ)) (ls : List (Located Numbered)) where
  abbrev numbered : List Numbered
  numbered = map (λ l. l.statement) ls

  abbrev bad_at : ℕ → Option Numbered → Bool
  bad_at i o = list_any (is_bad_member (type_of numbered) (choice_of numbered) (is_first_definition_at numbered i) (enclosing_choice numbered i)) (listed o)

  not_refused : (c : List ℕ → Cause) (i : ℕ) → bad_at i (slice_get numbered i) ≡ true → refused_at names ls c i ≡ [] → ⊥
  not_refused c i h n =
      let gone : slice_get ls i ≡ None = listed_none (slice_get ls i)
      (map_none (λ l. refusal_at (c (entry_name names (entry_symbol (menu_entry_at numbered i)))) l.file l.line)
      (listed (slice_get ls i)) n) in
      let none : slice_get numbered i ≡ None = slice_get-map (λ l. l.statement) ls i ∙ ap (option_map (λ l. l.statement)) gone in
      let no : bad_at i (slice_get numbered i) ≡ false = ap (bad_at i) none in
      (let e : true ≡ false = sym h ∙ no in cc)

  none_by : (ms : List ℕ) (rest : List Refused) → bad_members numbered ≡ ms → flat_map (refused_at names ls cause.ChoiceMember) ms ++ rest ≡ [] → ms ≡ []
  none_by [] rest e h = refl
  none_by (i ∷ is) rest e h =
      let bad = All-head (λ (j : ℕ). bad_at j (slice_get numbered j) ≡ true) i is
      (subst (λ (js : List ℕ). All (λ (j : ℕ). bad_at j (slice_get numbered j) ≡ true) js) e
      (filter_passes (λ (j : ℕ). bad_at j (slice_get numbered j)) (indices numbered))) in
      let all : flat_map (refused_at names ls cause.ChoiceMember) (i ∷ is) ≡ [] = first_nil (flat_map (refused_at names ls cause.ChoiceMember) (i ∷ is)) rest h in
      absurd (not_refused cause.ChoiceMember i bad (first_nil (refused_at names ls cause.ChoiceMember i) (flat_map (refused_at names ls cause.ChoiceMember) is) all))

  pub none_bad : whole_list_refusals names ls ≡ [] → bad_members numbered ≡ []
  none_bad h = none_by (bad_members numbered) (flat_map (refused_at names ls cause.BadDefault) (bad_defaults numbered)) refl h

modules_by : (defined : List SymId) (modules : Option SymId) (s : SymId) → symbol_if (stands_in defined) modules ≡ Some s → Contains defined s
modules_by defined None s h = absurd cc
modules_by defined (Some m) s h = by (stands_in defined m) refl h
  where
    by : (b : Bool) → stands_in defined m ≡ b → (if b then Some m else None) ≡ Some s → Contains defined s
    by false e f = absurd cc
    by true e f = let same : m ≡ s = cc in subst (Contains defined) same (found_is m defined e)

-- What the shape of the expanded list gives: its texts stand in lines, a choice stands in no choice, and the end of a menu
-- names that menu.
pub record IsShaped (ls : List (Located Named)) : Type 0 where
  pub lines : All IsInLines (statements ls)
  pub alone : (p : ℕ) → of_block (map (λ l. l.statement) (numbered_lines ls)) block.Choice p ≡ true → enclosing_choice (map (λ l. l.statement) (numbered_lines ls)) p ≡ None
  pub ends : (i menu : ℕ) → slice_get (entries (map (λ l. l.statement) (numbered_lines ls))) i ≡ Some (EndShown menu) → (menu < i)
      × ((text : List ℕ) × (when : Condition) × (slice_get (entries (map (λ l. l.statement) (numbered_lines ls))) menu ≡ Some (MenuShown text when)))

pub shaped : (files : Files) (root : List ℕ) (log : ReadSoFar) → Expands files root (Ok log) → IsShaped log.lines
shaped files root log e = record {
  lines = expanded_lines files root log e;
  alone = choices_alone files root log e;
  ends = ends_name_menus files root log e;
}

module _ (ls : List (Located Named)) where
  abbrev names : List (List ℕ)
  names = mentioned_names (statements ls)

  abbrev line_statements : List Numbered
  line_statements = statements (numbered_lines ls)

  abbrev whole : TreeFacts
  whole = facts_with names (numbered_lines ls)

  abbrev count_is : length whole.symbols ≡ length names
  count_is = length-map_numbers (λ i. symbol_facts line_statements (symbol i)) (length names)

  -- a name that a line defines is one that a symbol may have
  good_name : AreNames (defined (statements ls)) → (n : List ℕ) → list_any (same_name n) (definitions (statements ls)) ≡ true → IsSymbolName n
  good_name known n h =
      let there = known_at (defined (statements ls)) n (mentioned_known [] (definitions (statements ls)) n h) in
      good_is n (All-at (λ m. is_good_name m ≡ true) (defined (statements ls)) (number_of (defined (statements ls)) n) n known.good there)

  allowed : AreNames (defined (statements ls)) → (s : SymId) (name : List ℕ) → Contains whole.defined s → slice_get whole.names s.0 ≡ Some name → IsSymbolName name
  allowed known s name c h =
      let l = defined_line line_statements s c in
      let config = config_of ls l.place s l.at in
      let there : slice_get names s.0 ≡ Some config.name = ap (λ (t : SymId). slice_get names t.0) config.is ∙ known_at names config.name config.known in
      let same : config.name ≡ name = (let e : Some config.name ≡ Some name = sym there ∙ h in cc) in
      subst IsSymbolName same (good_name known config.name (defined_at (statements ls) l.place config.line config.name config.at config.defines))

  there : (s : SymId) → Contains whole.defined s → IsMentioned whole s
  there s c = let l = defined_line line_statements s c in mentioned_if names (numbered_lines ls) s (numbered_below ls l.place s l.at)

  all_there : All (IsMentioned whole) whole.defined
  all_there i d l = there (get_or whole.defined i d) (Contains-get_or whole.defined i d l)

  facts_are : (s : SymId) (f : SymbolFacts) → slice_get whole.symbols s.0 ≡ Some f → symbol_facts line_statements s ≡ f
  facts_are s f h =
      let within : s.0 < length names = (let l = slice_get_within whole.symbols s.0 f h in let n = count_is in omega arith) in
      (let e = sym (facts_at names (numbered_lines ls) s.0 within) ∙ h in cc)

  typed : (s : SymId) (f : SymbolFacts) → slice_get whole.symbols s.0 ≡ Some f → f.symbol_type ≢ symbol_type.Undefined → Contains whole.defined s
  typed s f h k = typed_is_defined line_statements s (λ e. k (sym (ap (λ (g : SymbolFacts). g.symbol_type) (facts_are s f h)) ∙ e))

  prompted : (s : SymId) (f : SymbolFacts) → slice_get whole.symbols s.0 ≡ Some f → 0 < length f.prompts → Contains whole.defined s
  prompted s f h l = prompted_is_defined line_statements s (let n = ap (λ (g : SymbolFacts). length g.prompts) (facts_are s f h) in omega (arith, n, l))

  pub well_formed : AreNames (defined (statements ls)) → AreDistinct names → IsShaped ls → whole_list_refusals names (numbered_lines ls) ≡ [] → IsWellFormed whole
  well_formed known distinct shaped none =
      let few = known.few in
      let many = as_many_defined ls in
      let below = numbered_below ls in
      let good = none_bad names (numbered_lines ls) none in
      record {
        names_differ = names_differ names distinct;
        symbols_named = count_is;
        names_allowed = allowed known;
        symbols_few = omega arith;
        defined_once = defined-once line_statements;
        defined_there = all_there;
        typed_defined = typed;
        prompted_defined = prompted;
        lines_sound = all_sound names (numbered_lines ls) below;
        members_listed = all_listed names (numbered_lines ls) below good;
        choices_sound = choices_sound names (numbered_lines ls) below good shaped.alone;
        entries_sound = entries_sound names (numbered_lines ls) shaped.ends;
        symbols_shown = shows_each names (numbered_lines ls);
        modules_defined = modules_by whole.defined (modules_symbol names line_statements);
        texts = line_texts ls shaped.lines;
      }
