-- The names and numbers of an expanded list.
use Rattle.std.proofs.{Common.{Bool, List, None, Option, Some, [], ap, arith, cond, false, length, map, not, refl, suc, sym, take, true, zero, ℕ, ◌++◌, ◌+◌, ◌<◌, ◌||◌, ◌∙◌, ◌∷◌, ◌≡◌}, lemmas.{Cmp.nat_list_eq_equiv, List.{Folds.list_any-append, length-map}, Map.Keys.IsDistinct-push, Option.slice_get_within}}
use Rattle.std.specs.{List.{IsDistinct, before_first, cons_option, flat_map, list_any, position_or_len, slice_get}, Prelude.option_map}
use Rattle.kc_language.specs.{Expansion.{defined_name, definitions, is_modules, last_of, mentioned_names, modules_of, numbered_lines}, Expressions.{all_mentioned, mention, number_of, same_name, symbol}, Statements.{ConfigLine, Located, ModulesLine, Named, names_in_statement, numbered, statements}, Symbols.{all_added, defined_symbols}, declared.expressions.SymId.SymId}
use Rattle.kc_expr.specs.{Names.{AreDistinct, Extends, IsNumber}, PartsOfSymbols.added}
use Rattle.kc_entries.specs.{ListFacts.AreBelow, PartsOfExpansion.{defined, located_numbered}, PartsOfSymbols.symbol_of}
use Rattle.kc_expr.proofs.NamesLemmas.{all_mentioned_extends, number_later, same_name-refl}
use Rattle.kc_read.specs.Expanded.{AreNumbers, IsNamed}
use Rattle.kc_read.proofs.{FileLemmas.same_name_eq, NameLemmas.{extends_none, known_at, numbers_placed}}
use Rattle.kc_entries.proofs.ListLemmas.{last_of-map}

-- Names that are mentioned are known.
known_in : (names others : List (List ℕ)) (w : List ℕ) → list_any (same_name w) names ≡ true → list_any (same_name w) (names ++ others) ≡ true
known_in names others w h = list_any-append (same_name w) names others ∙ ap (λ (b : Bool). b || list_any (same_name w) others) h

known_longer : (names later : List (List ℕ)) (w : List ℕ) → Extends names later → list_any (same_name w) names ≡ true → list_any (same_name w) later ≡ true
known_longer names later w x h = ap (list_any (same_name w)) x.1 ∙ known_in names x.0 w h

or_true : (a : Bool) → (a || true) ≡ true
or_true true = refl
or_true false = refl

either_true : (a : Bool) → (a || (true || false)) ≡ true
either_true true = refl
either_true false = refl

mentioned_once : (names : List (List ℕ)) (w : List ℕ) → list_any (same_name w) (mention names w) ≡ true
mentioned_once names w = by (list_any (same_name w) names) refl
  where
    by : (b : Bool) → list_any (same_name w) names ≡ b → list_any (same_name w) (cond b names (names ++ w ∷ [])) ≡ true
    by true e = e
    by false e = list_any-append (same_name w) names (w ∷ []) ∙ ap (λ (b : Bool). list_any (same_name w) names || (b || false)) (same_name-refl w) ∙ either_true (list_any (same_name w) names)

mentioned_first : (names ws : List (List ℕ)) (v w : List ℕ) (b : Bool) → same_name w v ≡ b → (b || list_any (same_name w) ws) ≡ true →
    (list_any (same_name w) ws ≡ true → list_any (same_name w) (all_mentioned (mention names v) ws) ≡ true) →
    list_any (same_name w) (all_mentioned (mention names v) ws) ≡ true
mentioned_first names ws v w true e f rest =
    let here : list_any (same_name w) (mention names v) ≡ true = ap (λ (u : List ℕ). list_any (same_name w) (mention names u)) (sym (same_name_eq w v e)) ∙ mentioned_once names w in
    known_longer (mention names v) (all_mentioned (mention names v) ws) w (all_mentioned_extends (mention names v) ws) here
mentioned_first names ws v w false e f rest = rest f

pub mentioned_known : (names ws : List (List ℕ)) (w : List ℕ) → list_any (same_name w) ws ≡ true → list_any (same_name w) (all_mentioned names ws) ≡ true
mentioned_known names [] w h = absurd cc
mentioned_known names (v ∷ ws) w h =
    mentioned_first names ws v w (same_name w v) refl h (mentioned_known (mention names v) ws w)

-- They stand once.
no_names : AreDistinct []
unfolding IsDistinct
no_names = tt

mentioned-distinct : (names : List (List ℕ)) (name : List ℕ) → AreDistinct names → AreDistinct (mention names name)
mentioned-distinct names name distinct = by (list_any (same_name name) names) refl
  where
    by : (b : Bool) → list_any (same_name name) names ≡ b → AreDistinct (cond b names (names ++ name ∷ []))
    by true is = distinct
    by false is = IsDistinct-push nat_list_eq_equiv names name distinct is

all_mentioned-distinct : (names words : List (List ℕ)) → AreDistinct names → AreDistinct (all_mentioned names words)
all_mentioned-distinct names [] distinct = distinct
all_mentioned-distinct names (w ∷ words) distinct = all_mentioned-distinct (mention names w) words (mentioned-distinct names w distinct)

pub names-distinct : (ss : List Named) → AreDistinct (mentioned_names ss)
names-distinct ss = all_mentioned-distinct [] (flat_map names_in_statement ss) no_names

-- A name that is known keeps its number.
mention_known : (names : List (List ℕ)) (w : List ℕ) → list_any (same_name w) names ≡ true → mention names w ≡ names
mention_known names w h = ap (λ (b : Bool). cond b names (names ++ w ∷ [])) h

known_number : (names : List (List ℕ)) (w : List ℕ) → list_any (same_name w) names ≡ true → IsNumber names w (symbol (number_of names w))
known_number names w h later x =
    ap symbol (number_later names w later (x.0, x.1 ∙ ap (λ (l : List (List ℕ)). l ++ x.0) (sym (mention_known names w h))))

-- A name that a line defines is mentioned.
name_first : (o : Option (List ℕ)) (ns : List (List ℕ)) (n : List ℕ) → o ≡ Some n → list_any (same_name n) (cons_option o ns) ≡ true
name_first None ns n e = absurd cc
name_first (Some m) ns n e =
    let same : n ≡ m = cc in
    ap (λ (b : Bool). b || list_any (same_name n) ns) (ap (λ (u : List ℕ). same_name n u) (sym same) ∙ same_name-refl n)

name_rest : (o : Option (List ℕ)) (ns : List (List ℕ)) (n : List ℕ) → list_any (same_name n) ns ≡ true → list_any (same_name n) (cons_option o ns) ≡ true
name_rest None ns n h = h
name_rest (Some m) ns n h = ap (λ (b : Bool). same_name n m || b) h ∙ or_true (same_name n m)

-- the name of a `config` line is among those that are defined
pub defined_at : (ss : List Named) (i : ℕ) (s : Named) (n : List ℕ) → slice_get ss i ≡ Some s → defined_name s ≡ Some n → list_any (same_name n) (definitions ss) ≡ true
defined_at [] i s n h e = absurd cc
defined_at (x ∷ ss) zero s n h e = let same : x ≡ s = cc in name_first (defined_name x) (definitions ss) n (ap defined_name same ∙ e)
defined_at (x ∷ ss) (suc i) s n h e = name_rest (defined_name x) (definitions ss) n (defined_at ss i s n h e)

-- all names of the second list are in the first
abbrev Knows : List (List ℕ) → List (List ℕ) → Type 0
Knows names ws = (w : List ℕ) → list_any (same_name w) ws ≡ true → list_any (same_name w) names ≡ true

config_is : (s : Named) (n : List ℕ) → defined_name s ≡ Some n → s ≡ ConfigLine n
config_is (ConfigLine m) n e = ap ConfigLine (let same : m ≡ n = cc in same)
config_is _ n e = absurd cc

knows_statement : (s : Named) (rest later : List (List ℕ)) (o : Option (List ℕ)) → defined_name s ≡ o → Knows later rest → (w : List ℕ) →
    list_any (same_name w) (cons_option o rest) ≡ true → list_any (same_name w) (names_in_statement s ++ later) ≡ true
knows_statement s rest later None e k w h =
    list_any-append (same_name w) (names_in_statement s) later ∙ ap (λ (b : Bool). list_any (same_name w) (names_in_statement s) || b) (k w h)
    ∙ or_true (list_any (same_name w) (names_in_statement s))
knows_statement s rest later (Some n) e k w h =
    ap (λ (x : Named). list_any (same_name w) (names_in_statement x ++ later)) (config_is s n e) ∙ by (same_name w n) h (k w)
  where
    by : (b : Bool) → (b || list_any (same_name w) rest) ≡ true → (list_any (same_name w) rest ≡ true → list_any (same_name w) later ≡ true) →
        (b || list_any (same_name w) later) ≡ true
    by true h f = refl
    by false h f = f h

knows_definitions : (ss : List Named) (w : List ℕ) → list_any (same_name w) (definitions ss) ≡ true → list_any (same_name w) (flat_map names_in_statement ss) ≡ true
knows_definitions [] w h = absurd cc
knows_definitions (s ∷ ss) w h = knows_statement s (definitions ss) (flat_map names_in_statement ss) (defined_name s) refl (knows_definitions ss) w h

pub definition_known : (ss : List Named) (w : List ℕ) → list_any (same_name w) (definitions ss) ≡ true → list_any (same_name w) (mentioned_names ss) ≡ true
definition_known ss w h = mentioned_known [] (flat_map names_in_statement ss) w (knows_definitions ss w h)

-- What a line is with numbers for names.
module _ (number : List ℕ → ℕ) where
  abbrev number_symbol : List ℕ → SymId
  number_symbol n = symbol (number n)

  -- a numbered `config` line was one
  pub config_by : (x : Named) (s : SymId) → symbol_of (Some (numbered number x)) ≡ Some s → (n : List ℕ) × (defined_name x ≡ Some n) × (s ≡ symbol (number n))
  config_by (ConfigLine n) s h = (n, refl, (let e : symbol (number n) ≡ s = cc in sym e))
  config_by _ s h = absurd cc

  pub numbered_at : (ls : List (Located Named)) (i : ℕ) →
      slice_get (map (λ l. l.statement) (map (located_numbered number) ls)) i ≡ option_map (numbered number) (slice_get (statements ls) i)
  numbered_at [] i = refl
  numbered_at (l ∷ ls) zero = refl
  numbered_at (l ∷ ls) (suc i) = numbered_at ls i

  pub statements_numbered : (ls : List (Located Named)) → map (λ l. l.statement) (map (located_numbered number) ls) ≡ map (numbered number) (statements ls)
  statements_numbered [] = refl
  statements_numbered (l ∷ ls) = ap (λ xs. numbered number l.statement ∷ xs) (statements_numbered ls)

  defined_numbered : (s : Named) → defined_name (numbered number s) ≡ option_map number_symbol (defined_name s)
  defined_numbered (ConfigLine n) = refl
  defined_numbered _ = refl

  definitions_by : (o : Option SymId) (p : Option (List ℕ)) (ids : List SymId) (ns : List (List ℕ)) → o ≡ option_map number_symbol p → ids ≡ map number_symbol ns →
      cons_option o ids ≡ map number_symbol (cons_option p ns)
  definitions_by o None ids ns e f = ap (λ (x : Option SymId). cons_option x ids) e ∙ f
  definitions_by o (Some n) ids ns e f = ap (λ (x : Option SymId). cons_option x ids) e ∙ ap (λ (l : List SymId). number_symbol n ∷ l) f

  pub definitions_numbered : (ss : List Named) → definitions (map (numbered number) ss) ≡ map number_symbol (definitions ss)
  definitions_numbered [] = refl
  definitions_numbered (s ∷ ss) =
      definitions_by (defined_name (numbered number s)) (defined_name s) (definitions (map (numbered number) ss)) (definitions ss) (defined_numbered s) (definitions_numbered ss)

  modules_numbered : (s : Named) → is_modules (numbered number s) ≡ is_modules s
  modules_numbered ModulesLine = refl
  modules_numbered _ = refl

  any_modules : (ss : List Named) → list_any is_modules (map (numbered number) ss) ≡ list_any is_modules ss
  any_modules [] = refl
  any_modules (s ∷ ss) = λ i. modules_numbered s i || any_modules ss i

  before_modules : (ss : List Named) → before_first is_modules (map (numbered number) ss) ≡ map (numbered number) (before_first is_modules ss)
  before_modules [] = refl
  before_modules (s ∷ ss) =
      ap (λ (b : Bool). take (cond (not b) (1 + position_or_len is_modules (map (numbered number) ss)) 0) (numbered number s ∷ map (numbered number) ss)) (modules_numbered s)
      ∙ by (is_modules s) (before_modules ss)
    where
      by : (b : Bool) → before_first is_modules (map (numbered number) ss) ≡ map (numbered number) (before_first is_modules ss) →
          take (cond (not b) (1 + position_or_len is_modules (map (numbered number) ss)) 0) (numbered number s ∷ map (numbered number) ss)
          ≡ map (numbered number) (take (cond (not b) (1 + position_or_len is_modules ss) 0) (s ∷ ss))
      by true h = refl
      by false h =
          let one : 1 + position_or_len is_modules (map (numbered number) ss) ≡ suc (position_or_len is_modules (map (numbered number) ss)) = omega arith in
          let two : 1 + position_or_len is_modules ss ≡ suc (position_or_len is_modules ss) = omega arith in
          rw (one, two) (ap (λ xs. numbered number s ∷ xs) h)

  pub modules_are : (ss : List Named) → modules_of (map (numbered number) ss) ≡ option_map number_symbol (modules_of ss)
  modules_are ss =
      ap (λ (b : Bool). cond b (last_of (definitions (before_first is_modules (map (numbered number) ss)))) None) (any_modules ss)
      ∙ ap (λ (o : Option SymId). cond (list_any is_modules ss) o None)
      (ap (λ xs. last_of (definitions xs)) (before_modules ss) ∙ ap last_of (definitions_numbered (before_first is_modules ss)) ∙ last_of-map number_symbol (definitions (before_first is_modules ss)))
      ∙ by (list_any is_modules ss)
    where
      by : (b : Bool) → cond b (option_map number_symbol (last_of (definitions (before_first is_modules ss)))) None
          ≡ option_map number_symbol (cond b (last_of (definitions (before_first is_modules ss))) None)
      by true = refl
      by false = refl

-- The defined symbols are the numbers of the defined names.
added_numbers : (names : List (List ℕ)) (ids : List SymId) (ns ws : List (List ℕ)) → AreNumbers names ids ns → Knows names ws →
    AreNumbers names (all_added ids (map (λ w. symbol (number_of names w)) ws)) (all_mentioned ns ws)
added_numbers names ids ns [] h k = h
added_numbers names ids ns (w ∷ ws) h k =
    let own : IsNumber names w (symbol (number_of names w)) = known_number names w (k w (ap (λ (b : Bool). b || list_any (same_name w) ws) (same_name-refl w))) in
    let placed = numbers_placed names names ids ns w (symbol (number_of names w)) (extends_none names) h own in
    added_numbers names (added ids (symbol (number_of names w))) (mention ns w) ws placed (λ v e. k v (ap (λ (b : Bool). same_name v w || b) e ∙ or_true (same_name v w)))

pub defined_are_numbers : (ls : List (Located Named)) →
    defined_symbols (statements (numbered_lines ls)) ≡ map (λ n. symbol (number_of (mentioned_names (statements ls)) n)) (defined (statements ls))
defined_are_numbers ls =
    let ss = statements ls in
    let names = mentioned_names ss in
    ap (λ xs. all_added [] (definitions xs)) (statements_numbered (number_of names) ls)
    ∙ ap (all_added []) (definitions_numbered (number_of names) ss)
    ∙ added_numbers names [] [] (definitions ss) (λ later x. refl) (definition_known ss) names (extends_none names)

pub as_many_defined : (ls : List (Located Named)) → length (defined_symbols (statements (numbered_lines ls))) ≡ length (defined (statements ls))
as_many_defined ls = ap length (defined_are_numbers ls) ∙ length-map (defined (statements ls)) (λ n. symbol (number_of (mentioned_names (statements ls)) n))

-- the number of a name, where there is a name
pub named_is : (names : List (List ℕ)) (o : Option SymId) (m : Option (List ℕ)) → IsNamed names o m → o ≡ option_map (λ n. symbol (number_of names n)) m
named_is names None None h = refl
named_is names None (Some n) h = absurd h
named_is names (Some id) None h = absurd h
named_is names (Some id) (Some n) h = ap Some (h names (extends_none names))

-- A numbered `config` line defines a name that is mentioned.
pub record IsConfigOf (ls : List (Located Named)) (i : ℕ) (s : SymId) : Type 0 where
  pub name : List ℕ
  pub line : Named
  pub at : slice_get (statements ls) i ≡ Some line
  pub defines : defined_name line ≡ Some name
  pub is : s ≡ symbol (number_of (mentioned_names (statements ls)) name)
  pub known : list_any (same_name name) (mentioned_names (statements ls)) ≡ true

config_in : (ls : List (Located Named)) (i : ℕ) (s : SymId) (o : Option Named) → slice_get (statements ls) i ≡ o →
    symbol_of (option_map (numbered (number_of (mentioned_names (statements ls)))) o) ≡ Some s → IsConfigOf ls i s
config_in ls i s None at h = absurd cc
config_in ls i s (Some x) at h =
    let found = config_by (number_of (mentioned_names (statements ls))) x s h in
    record {
      name = found.0;
      line = x;
      at = at;
      defines = found.1;
      is = found.2;
      known = definition_known (statements ls) found.0 (defined_at (statements ls) i x found.0 at found.1);
    }

pub config_of : (ls : List (Located Named)) (i : ℕ) (s : SymId) → symbol_of (slice_get (statements (numbered_lines ls)) i) ≡ Some s → IsConfigOf ls i s
config_of ls i s h =
    config_in ls i s (slice_get (statements ls) i) refl (sym (ap symbol_of (numbered_at (number_of (mentioned_names (statements ls))) ls i)) ∙ h)

-- and its symbol has the number of one
pub numbered_below : (ls : List (Located Named)) → AreBelow (length (mentioned_names (statements ls))) (statements (numbered_lines ls))
numbered_below ls i s h =
    let c = config_of ls i s h in
    let names = mentioned_names (statements ls) in
    let within : number_of names c.name < length names = slice_get_within names (number_of names c.name) c.name (known_at names c.name c.known) in
    let same : s.0 ≡ number_of names c.name = ap (λ (t : SymId). t.0) c.is in
    omega arith
