-- Lost values: their symbols and their lines, and what is told of them.
use Rattle.std.proofs.Common.{◌≡◌, ◌≤◌, ◌∙◌, ℕ, Bool, true, false, List, [], ◌∷◌, ◌++◌, length, map, Option, Some, None, refl, ap, sym, append-nil, arith}
use Rattle.std.specs.Prelude.{codes, filter, if◌then◌else◌, not, ◌&&◌, ◌==◌}
use Rattle.std.specs.List.{flat_map}
use Rattle.std.proofs.lemmas.Grind.{flat_map-append}
use Rattle.std.proofs.lemmas.List.{length-map, map-append, Folds.{flat_map-map}}
use Rattle.kc_language.specs.ConfigFile.{StreamLocation, UserInput, place_at}
use Rattle.kc_language.specs.Symbols.{SymbolFacts}
use Rattle.kc_language.specs.Values.{GivenValue, SymbolPlace, facts, given_of, name, same_given}
use Rattle.kc_language.specs.Texts.{Solution, known, lost_at, lost_lines, lost_of}
use Rattle.kc_language.specs.declared.expressions.SymId.{SymId}
use Rattle.std.specs.Prelude.{slice_index_or}
use Rattle.kc_outcome.specs.Explanations.{causes_lines, symbol_lines, text_of_lines}
use Rattle.kc_outcome.specs.Outcome.{Options, lead, lines_text, lost_symbols, lost_text, lost_warnings, question_text}
use Rattle.kc_conf.specs.declared.lost.LostValue.{LostValue}
use Rattle.kc_conf.specs.Lost.{lines_of, lost_pairs, lost_values, lost_view}

-- the symbol of a lost value, and its line
abbrev first : SymId × List ℕ → SymId
first v = v.0

abbrev second : SymId × List ℕ → List ℕ
second v = v.1

-- the explanation of a symbol whose value is lost; what is told with explanations and without
module _ (options : Options) (input : UserInput) (solution : Solution) where
  abbrev pub behind : SymId → List ℕ
  behind s = text_of_lines (lead options ++ codes "  ") (symbol_lines input solution options.prefix.is_raw s)

  abbrev pub told_at : SymId → List ℕ
  told_at s = lines_text (lost_at options.prefix.is_raw input.lines solution s) ++ behind s

  abbrev pub causes_text : List SymId → ℕ → List ℕ
  causes_text lost n = text_of_lines (lead options ++ codes "  ") (causes_lines input solution options.prefix.is_raw lost n)

  abbrev pub question_after : List SymId → List ℕ
  question_after lost = question_text (lead options ++ codes "  ") (map (name solution.tree) lost)

  abbrev pub lost_text_if : Bool → List ℕ
  lost_text_if b = if b then flat_map told_at (lost_symbols options input solution) ++ causes_text (lost_symbols options input solution) (length (lost_symbols options input solution))
      ++ question_after (lost_symbols options input solution)
      else lines_text (lost_warnings options input solution)

module _ (is_raw : Bool) (lines : List (Option StreamLocation)) (s : Solution) where
  -- a symbol has one line at most
  one_if : (b : Bool) (line : List ℕ) → length (if b then [] else line ∷ []) ≤ 1
  one_if true line = omega arith
  one_if false line = omega arith

  one_of : (called : List ℕ) (f : Option SymbolFacts) (at : Option StreamLocation) (given : Option GivenValue) (value : GivenValue) → length (lost_of is_raw called f at given value) ≤ 1
  one_of called None at given value = omega arith
  one_of called (Some f) None None value = omega arith
  one_of called (Some f) None (Some given) value = omega arith
  one_of called (Some f) (Some at) None value = omega arith
  one_of called (Some f) (Some at) (Some given) value = one_if (same_given given value) _

  one_at : (id : SymId) → length (lost_at is_raw lines s id) ≤ 1
  one_at id = one_of (name s.tree id) (facts s.tree id) (slice_index_or lines id.0 None) (place_at s.places (SymbolPlace id.0)) (given_of (known s id))

  abbrev is_lost : SymId → Bool
  is_lost id = not (length (lost_at is_raw lines s id) == 0)

  abbrev pairs : List SymId → List (SymId × List ℕ)
  pairs ids = flat_map (lost_pairs is_raw lines s) ids

  -- the symbols of lost values are the lost symbols
  first_of : (id : SymId) (rest : List SymId) (ls : List (List ℕ)) → length ls ≤ 1 → map first (map (λ l. (id, l)) ls) ++ rest ≡ (if not (length ls == 0) then id ∷ rest else rest)
  first_of id rest [] one = refl
  first_of id rest (l ∷ []) one = refl
  first_of id rest (l ∷ m ∷ ls) one = absurd (omega (arith, one))

  pub symbols_are : (ids : List SymId) → map first (pairs ids) ≡ filter is_lost ids
  symbols_are [] = refl
  symbols_are (id ∷ ids) =
      map-append first (lost_pairs is_raw lines s id) (pairs ids) ∙ ap (λ r. map first (lost_pairs is_raw lines s id) ++ r) (symbols_are ids)
      ∙ first_of id (filter is_lost ids) (lost_at is_raw lines s id) (one_at id)

  -- and their lines are those that warn of them
  second_of : (id : SymId) (ls : List (List ℕ)) → map second (map (λ l. (id, l)) ls) ≡ ls
  second_of id [] = refl
  second_of id (l ∷ ls) = ap (λ r. l ∷ r) (second_of id ls)

  pub lines_are : (ids : List SymId) → map second (pairs ids) ≡ flat_map (lost_at is_raw lines s) ids
  lines_are [] = refl
  lines_are (id ∷ ids) =
      map-append second (lost_pairs is_raw lines s id) (pairs ids) ∙ (λ j. second_of id (lost_at is_raw lines s id) j ++ lines_are ids j)

  -- each with what is told behind it
  module _ (more : SymId → List ℕ) where
    abbrev with_more : SymId × List ℕ → List ℕ
    with_more v = v.1 ++ codes "\n" ++ more v.0

    abbrev told_of : SymId → List ℕ
    told_of id = lines_text (lost_at is_raw lines s id) ++ more id

    one_told : (id : SymId) (rest : List ℕ) (ls : List (List ℕ)) → length ls ≤ 1 →
        flat_map with_more (map (λ l. (id, l)) ls) ++ rest ≡ (if not (length ls == 0) then (lines_text ls ++ more id) ++ rest else rest)
    one_told id rest [] one = refl
    one_told id rest (l ∷ []) one = ap (λ t. t ++ rest) (append-nil (l ++ codes "\n" ++ more id) ∙ ap (λ t. t ++ more id) (sym (append-nil (l ++ codes "\n"))))
    one_told id rest (l ∷ m ∷ ls) one = absurd (omega (arith, one))

    told_if : (id : SymId) (ids : List SymId) (b : Bool) → (if b then told_of id ++ flat_map told_of ids else flat_map told_of ids) ≡ flat_map told_of (if b then id ∷ ids else ids)
    told_if id ids true = refl
    told_if id ids false = refl

    pub told_are : (ids : List SymId) → flat_map with_more (pairs ids) ≡ flat_map told_of (filter is_lost ids)
    told_are [] = refl
    told_are (id ∷ ids) =
        flat_map-append with_more (lost_pairs is_raw lines s id) (pairs ids) ∙ ap (λ r. flat_map with_more (lost_pairs is_raw lines s id) ++ r) (told_are ids)
        ∙ one_told id (flat_map told_of (filter is_lost ids)) (lost_at is_raw lines s id) (one_at id) ∙ told_if id (filter is_lost ids) (is_lost id)

module _ (options : Options) (input : UserInput) (solution : Solution) where
  abbrev all_pairs : List (SymId × List ℕ)
  all_pairs = pairs options.prefix.is_raw input.lines solution solution.tree.defined

  warned_lines : (b : Bool) → map second (if b then all_pairs else []) ≡ (if b then lost_lines options.prefix.is_raw input.lines solution else [])
  warned_lines true = lines_are options.prefix.is_raw input.lines solution solution.tree.defined
  warned_lines false = refl

  module _ (ps : List (SymId × List ℕ)) (are : ps ≡ lost_values options input solution) where
    lines_all : map second ps ≡ lost_warnings options input solution
    lines_all = ap (map second) are ∙ warned_lines options.warn_lost

    -- without explanations
    pub lost_plain : (options.explain_lost && options.warn_lost) ≡ false → lines_of ps ≡ lost_text options input solution
    lost_plain off =
        sym (flat_map-map (λ l. l ++ codes "\n") second ps) ∙ ap lines_text lines_all ∙ sym (ap (lost_text_if options input solution) off)

    -- with explanations and causes
    abbrev told_by : List (SymId × List ℕ) → List ℕ
    told_by vs = flat_map (with_more options.prefix.is_raw input.lines solution (behind options input solution)) vs ++ causes_text options input solution (map first vs) (length vs)
        ++ question_after options input solution (map first vs)

    pub lost_explained : options.warn_lost ≡ true → (options.explain_lost && options.warn_lost) ≡ true → told_by ps ≡ lost_text options input solution
    lost_explained warns on =
        let defined = solution.tree.defined in
        let symbols = symbols_are options.prefix.is_raw input.lines solution defined in
        ap told_by (are ∙ ap (λ b. if b then all_pairs else []) warns)
        ∙ (λ j. told_are options.prefix.is_raw input.lines solution (behind options input solution) defined j
        ++ causes_text options input solution (symbols j) ((sym (length-map all_pairs first) ∙ ap length symbols) j)
        ++ question_after options input solution (symbols j))
        ∙ sym (ap (lost_text_if options input solution) on)

-- whether there are none
pub none_lost : (options : Options) (input : UserInput) (solution : Solution) (lost : List LostValue) → map lost_view lost ≡ lost_values options input solution →
    (length lost == 0) ≡ (length (lost_warnings options input solution) == 0)
none_lost options input solution lost are =
    ap (λ n. n == 0) (sym (length-map lost lost_view) ∙ sym (length-map (map lost_view lost) second) ∙ ap length (lines_all options input solution (map lost_view lost) are))
