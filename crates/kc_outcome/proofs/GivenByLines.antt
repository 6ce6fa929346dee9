-- What reading input files gives a symbol is what a line can give it.
use Rattle.std.proofs.Common.{◌≡◌, refl, ap, sym, subst, inl, inr, true, false, arith, get_or}
use Rattle.std.proofs.lemmas.Bool.{cases_Bool, eqb-true}
use Rattle.std.proofs.lemmas.Option.{none-some}
use Rattle.std.specs.List.{AllByRecursion, filter_map, last_or}
use Rattle.std.specs.Prelude.{Bool, IfSome, List, None, Option, Some, [], codes, if◌then◌else◌, length, replicate, slice_get, suc, take_while, zero, ◌+◌, ◌==◌, ◌∷◌, ◌≡◌, ℕ}
use Rattle.kc_language.specs.{ConfigFile.{Assignment, Assigns, Effect, Line, LineMeaning, Malformed, Notation, Nothing, Set, Silent, Unset, UserInput, Warns, each_from, effect, effect_of, is_within, line_meaning, lines_of, places_given, reading, set_by_type, symbol_named, unset_by_type, value_by}, Symbols.{TreeFacts, Warning}, Values.{GivenTruth, GivenValue, facts, type_in}, declared.{diagnostics.Warning.TheVariants.{MalformedLine, NotAllowed, TextUnset, UnknownSymbol}, expressions.{SymId.{SymId}, SymbolType.{SymbolType, TheVariants.{Bool as IsBool, Hex, Int, Str, Tristate, Undefined}}, Tri.TheVariants.{N}}}}
use Rattle.kc_outcome.specs.{Explanations.{IsGivenByLine}, Outcome.{Options, fresh_input, input_names, read_of, streams}}
use Rattle.kc_outcome.proofs.FactLists.{found}

-- ---- Lists with a value or none for each index
module _ {G : Type 0} (P : G → Type 0) where
  last_holds : (old : Option G) (xs : List G) → IfSome old P → AllByRecursion P xs → IfSome (last_or old xs) P
  last_holds old [] h all = h
  last_holds old (x ∷ xs) h all = last_holds (Some x) xs all.0 all.1

  each_holds : (f : ℕ → Option G → Option G) (n i k : ℕ) (xs : List (Option G)) → k ≡ n + i → IfSome (get_or xs i None) P →
      ((old : Option G) → IfSome old P → IfSome (f k old) P) → IfSome (get_or (each_from f n xs) i None) P
  each_holds f n i k [] e h step = tt
  each_holds f n zero k (x ∷ xs) e h step = let here : k ≡ n = omega (arith, e) in subst (λ m. IfSome (f m x) P) here (step x h)
  each_holds f n (suc i) k (x ∷ xs) e h step = each_holds f (n + 1) i k xs (omega (arith, e)) h step

none_replicated : {G : Type 0} (n i : ℕ) → get_or {A = Option G} (replicate n None) i None ≡ None
none_replicated zero i = refl
none_replicated (suc n) zero = refl
none_replicated (suc n) (suc i) = none_replicated n i

-- ---- What a line assigns
module _ (is_raw : Bool) (tree : TreeFacts) where
  abbrev Gives : SymbolType → GivenValue → Type 0
  Gives kind g = (line : List ℕ) × (value_by is_raw kind line ≡ Some g)

  abbrev kind_at : ℕ → SymbolType
  kind_at i = type_in (slice_get tree.symbols i)

  same_assigned : (t s : SymId) (x g : GivenValue) → Assigns t x ≡ Assigns s g → (t ≡ s) × (x ≡ g)
  same_assigned t s x g e = (cc, cc)

  warned : (w : Warning) (s : SymId) (g : GivenValue) → Warns w ≡ Assigns s g → ⊥
  warned w s g e = cc

  set_from : (b : Bool) (o : Option GivenValue) (w : Warning) (t s : SymId) (g : GivenValue) →
      elim (if b then o else None) [ None ↦ Warns w | Some given ↦ Assigns t given ] ≡ Assigns s g → (t ≡ s) × (o ≡ Some g)
  set_from true None w t s g e = absurd (warned w s g e)
  set_from true (Some x) w t s g e = let same = same_assigned t s x g e in (same.0, ap Some same.1)
  set_from false o w t s g e = absurd (warned w s g e)

  set_gives : (called : List ℕ) (t s : SymId) (line : List ℕ) (g : GivenValue) (kind : SymbolType) → set_by_type is_raw called t line kind ≡ Assigns s g →
      (t ≡ s) × Gives kind g
  set_gives called t s line g Undefined e = absurd (warned (UnknownSymbol called) s g e)
  set_gives called t s line g IsBool e = let from = set_from _ (value_by is_raw IsBool line) (NotAllowed called) t s g e in (from.0, (line, from.1))
  set_gives called t s line g Tristate e = let from = set_from _ (value_by is_raw Tristate line) (NotAllowed called) t s g e in (from.0, (line, from.1))
  set_gives called t s line g Str e = let from = set_from _ (value_by is_raw Str line) (NotAllowed called) t s g e in (from.0, (line, from.1))
  set_gives called t s line g Int e = let from = set_from _ (value_by is_raw Int line) (NotAllowed called) t s g e in (from.0, (line, from.1))
  set_gives called t s line g Hex e = let from = set_from _ (value_by is_raw Hex line) (NotAllowed called) t s g e in (from.0, (line, from.1))

  unset_gives : (called : List ℕ) (t s : SymId) (g : GivenValue) (kind : SymbolType) → unset_by_type called t kind ≡ Assigns s g → (t ≡ s) × Gives kind g
  unset_gives called t s g Undefined e = absurd (warned (UnknownSymbol called) s g e)
  unset_gives called t s g IsBool e = let same = same_assigned t s (GivenTruth N) g e in (same.0, (codes "n", ap Some same.1))
  unset_gives called t s g Tristate e = let same = same_assigned t s (GivenTruth N) g e in (same.0, (codes "n", ap Some same.1))
  unset_gives called t s g Str e = absurd (warned (TextUnset called) s g e)
  unset_gives called t s g Int e = absurd (warned (TextUnset called) s g e)
  unset_gives called t s g Hex e = absurd (warned (TextUnset called) s g e)

  named_gives : (called : List ℕ) (by : SymId → Effect) (s : SymId) (g : GivenValue) → ((t : SymId) → by t ≡ Assigns s g → (t ≡ s) × Gives (kind_at t.0) g) →
      (o : Option SymId) → elim o [ None ↦ Warns (UnknownSymbol called) | Some t ↦ by t ] ≡ Assigns s g → Gives (kind_at s.0) g
  named_gives called by s g gives None e = absurd (warned (UnknownSymbol called) s g e)
  named_gives called by s g gives (Some t) e = let same = gives t e in subst (λ (u : SymId). Gives (kind_at u.0) g) same.0 same.1

  line_gives : (m : LineMeaning) (s : SymId) (g : GivenValue) → effect_of is_raw tree m ≡ Assigns s g → Gives (kind_at s.0) g
  line_gives Nothing s g e = absurd cc
  line_gives (Unset called) s g e = named_gives called (λ t. unset_by_type called t (type_in (facts tree t))) s g
      (λ t h. unset_gives called t s g (kind_at t.0) h) (symbol_named tree called) e
  line_gives (Set called line) s g e = named_gives called (λ t. set_by_type is_raw called t line (type_in (facts tree t))) s g
      (λ t h. set_gives called t s line g (kind_at t.0) h) (symbol_named tree called) e
  line_gives Malformed s g e = absurd (warned MalformedLine s g e)

  -- ---- What lines assign
  abbrev Assigned : Assignment → Type 0
  Assigned a = Gives (kind_at a.symbol.0) a.given

  abbrev assignment_of : Effect → Option Assignment
  assignment_of e = elim e [ Assigns s given ↦ Some (record { symbol = s; given = given }) | _ ↦ None ]

  assignment_gives : (m : LineMeaning) (e : Effect) → effect_of is_raw tree m ≡ e → (a : Assignment) → assignment_of e ≡ Some a → Assigned a
  assignment_gives m Silent is a h = absurd (none-some a h)
  assignment_gives m (Warns w) is a h = absurd (none-some a h)
  assignment_gives m (Assigns s g) is a h = subst Assigned (let same : record { symbol = s; given = g } ≡ a = cc in same) (line_gives m s g is)

  all_give : (meaning : Line → LineMeaning) (lines : List Line) → AllByRecursion Assigned (filter_map (λ l. assignment_of (effect_of is_raw tree (meaning l))) lines)
  all_give meaning [] = tt
  all_give meaning (l ∷ lines) = elim (found (assignment_of (effect_of is_raw tree (meaning l)))) [
    | inl none ↦ rw none (all_give meaning lines)
    | inr some ↦ rw some.1 (assignment_gives (meaning l) _ refl some.0 some.1, all_give meaning lines)
  ]

  -- Those of one symbol
  own_give : (k : ℕ) (all : List Assignment) → AllByRecursion Assigned all →
      AllByRecursion (Gives (kind_at k)) (filter_map (λ a. if a.symbol.0 == k then Some a.given else None) all)
  own_give k [] h = tt
  own_give k (a ∷ all) h = elim (cases_Bool (a.symbol.0 == k)) [
    | inl e ↦ rw e (subst (λ i. Gives (kind_at i) a.given) (eqb-true a.symbol.0 k e) h.0, own_give k all h.1)
    | inr e ↦ rw e (own_give k all h.1)
  ]

-- Reading more lines keeps what is given by lines.
pub reading_gives : (tree : TreeFacts) (notation : Notation) (input : UserInput) (lines : List Line) (s : SymId) → IsGivenByLine notation.is_raw tree input s →
    IsGivenByLine notation.is_raw tree (reading tree notation input lines).input s
unfolding reading places_given effect
reading_gives tree notation input lines s given =
    let P = Gives notation.is_raw tree (kind_at notation.is_raw tree s.0) in
    let all = all_give notation.is_raw tree (line_meaning tree notation) (take_while is_within lines) in
    each_holds P _ 0 s.0 s.0 input.places.symbols (omega arith) given
    (λ old h. last_holds P old _ h (own_give notation.is_raw tree s.0 _ all))

-- So the places of a run are given by lines.
pub run_gives : (options : Options) (tree : TreeFacts) (all : List (List ℕ)) (s : SymId) → IsGivenByLine options.prefix.is_raw tree (read_of options tree all).input s
run_gives options tree all s =
    reading_gives tree options.prefix (fresh_input options tree) (lines_of (streams (input_names options) all)) s
    (subst (λ o. IfSome o (Gives options.prefix.is_raw tree (kind_at options.prefix.is_raw tree s.0))) (sym (none_replicated (length tree.symbols) s.0)) tt)
