-- A line that assigns a value that is allowed.
use Rattle.std.proofs.{Common.{Bool, List, None, Option, Some, [], ap, arith, length, refl, sym, true, ℕ, ◌++◌, ◌+◌, ◌∙◌, ◌∷◌, ◌≡◌, ◌≤◌}, lemmas.{Bool.{and_parts, leb-true, not-true, true≢false}, List.length-append}}
use Rattle.std.specs.{List.list_any, Prelude.{is_some, nat_le, not, slice_get}}
use Rattle.kc_language.specs.{ConfigFile.{Assigns, Line, Notation, effect, is_prefix, is_within, set_by_type}, Lines.is_line_feed, Symbols.{SymbolFacts, TreeFacts}, Text.{escape, hex_of, int_of}, Texts.EndsPlainly, Values.{GivenText, GivenTruth, GivenValue, Member, name as name_of}, declared.expressions.{SymId.SymId, SymbolType.SymbolType, Tri.{TheVariants.{M, N, Y}, Tri}}}
use Rattle.kc_language.specs.declared.expressions.SymbolType.TheVariants as symbol_type
use Rattle.kc_entries.specs.WellFormed.{IsWellFormed}
use Rattle.kc_user.specs.Places.{allowed, allowed_by, allowed_for, allowed_text, allowed_truth}
use Rattle.kc_input.specs.{HasNames.HasNames, PartsOfConfigFile.{assigned_or, between_quotes, line, line_value}, ReadingLaws.AllowedAreAssigned}
use Rattle.kc_input.proofs.{DefinedLemmas.{has_names, untyped_not}, LineLemmas.{HasNoLf, is_within-line, no_line_feed}, RoundTripLemmas.{between_short, string_read_again}, SymbolLineLemmas.{no_lf_check, plain_one, plain_quote, quoted_no_lf, set_no_lf, set_says, short_prefix}, TextBytes.{hex_bytes, int_bytes, number_no_lf, number_plain}}

-- A text that stands right of a line's `=` and gives a symbol of this type the value.
module _ (is_raw : Bool) (name : List ℕ) (s : SymId) where
  pub record Sets (k : SymbolType) (g : GivenValue) (value : List ℕ) : Type 0 where
    pub none : HasNoLf value
    pub plain : EndsPlainly value
    pub short : length value ≤ 65000
    pub means : set_by_type is_raw name s value k ≡ Assigns s g

  one_byte_sets : (k : SymbolType) (g : GivenValue) (b : ℕ) → HasNoLf (b ∷ []) → EndsPlainly (b ∷ []) → set_by_type is_raw name s (b ∷ []) k ≡ Assigns s g → (value : List ℕ) × Sets k g value
  one_byte_sets k g b none plain means = (b ∷ [], record { none = none; plain = plain; short = omega arith; means = means })

  truth_sets : (k : SymbolType) (t : Tri) → allowed_truth k t ≡ true → (value : List ℕ) × Sets k (GivenTruth t) value
  truth_sets symbol_type.Undefined t ok = absurd (true≢false (sym ok))
  truth_sets symbol_type.Bool N ok = one_byte_sets symbol_type.Bool (GivenTruth N) 110 (no_lf_check (110 ∷ []) refl) (plain_one 110 refl) refl
  truth_sets symbol_type.Bool M ok = absurd (true≢false (sym ok))
  truth_sets symbol_type.Bool Y ok = one_byte_sets symbol_type.Bool (GivenTruth Y) 121 (no_lf_check (121 ∷ []) refl) (plain_one 121 refl) refl
  truth_sets symbol_type.Tristate N ok = one_byte_sets symbol_type.Tristate (GivenTruth N) 110 (no_lf_check (110 ∷ []) refl) (plain_one 110 refl) refl
  truth_sets symbol_type.Tristate M ok = one_byte_sets symbol_type.Tristate (GivenTruth M) 109 (no_lf_check (109 ∷ []) refl) (plain_one 109 refl) refl
  truth_sets symbol_type.Tristate Y ok = one_byte_sets symbol_type.Tristate (GivenTruth Y) 121 (no_lf_check (121 ∷ []) refl) (plain_one 121 refl) refl
  truth_sets symbol_type.Str t ok = absurd (true≢false (sym ok))
  truth_sets symbol_type.Int t ok = absurd (true≢false (sym ok))
  truth_sets symbol_type.Hex t ok = absurd (true≢false (sym ok))

  string_sets : (text : List ℕ) → length (escape text) + 2 ≤ 65000 → HasNoLf text → Sets symbol_type.Str (GivenText text) (34 ∷ between_quotes is_raw text ++ 34 ∷ [])
  string_sets text fits none = record {
    none = quoted_no_lf is_raw text none;
    plain = plain_quote (between_quotes is_raw text);
    short = omega (arith, fits, between_short is_raw text, length-append (34 ∷ between_quotes is_raw text) (34 ∷ []));
    means = ap (assigned_or name s) (string_read_again is_raw text fits);
  }

  text_sets : (k : SymbolType) (text : List ℕ) → allowed_text k text ≡ true → (value : List ℕ) × Sets k (GivenText text) value
  text_sets symbol_type.Undefined text ok = absurd (true≢false (sym ok))
  text_sets symbol_type.Bool text ok = absurd (true≢false (sym ok))
  text_sets symbol_type.Tristate text ok = absurd (true≢false (sym ok))
  text_sets symbol_type.Str text ok =
      let (short, one) = and_parts (nat_le (length (escape text) + 2) 65000) (not (list_any is_line_feed text)) ok in
      (34 ∷ between_quotes is_raw text ++ 34 ∷ [], string_sets text (leb-true (length (escape text) + 2) 65000 short) (no_line_feed text (not-true _ one)))
  text_sets symbol_type.Int text ok =
      let (short, number) = and_parts (nat_le (length text) 65000) (is_some (int_of text)) ok in
      let bytes = int_bytes text number in
      (text, record { none = number_no_lf text bytes; plain = number_plain text bytes; short = leb-true (length text) 65000 short; means = ap (assigned_or name s) (let v : line_value is_raw symbol_type.Int text ≡ Some (GivenText text) = rw (short, number) refl in v) })
  text_sets symbol_type.Hex text ok =
      let (short, number) = and_parts (nat_le (length text) 65000) (is_some (hex_of text)) ok in
      let bytes = hex_bytes text number in
      (text, record { none = number_no_lf text bytes; plain = number_plain text bytes; short = leb-true (length text) 65000 short; means = ap (assigned_or name s) (let v : line_value is_raw symbol_type.Hex text ≡ Some (GivenText text) = rw (short, number) refl in v) })

  sets : (k : SymbolType) (g : GivenValue) → allowed_by k g ≡ true → (value : List ℕ) × Sets k g value
  sets k (GivenTruth t) ok = truth_sets k t ok
  sets k (GivenText text) ok = text_sets k text ok
  sets k (Member m) ok = absurd (true≢false (sym ok))

module _ (tree : TreeFacts) (prefix : Notation) (stream : List ℕ) (is_pre : is_prefix prefix.prefix ≡ true) (formed : IsWellFormed tree) (s : SymId) (g : GivenValue) where
  -- a line that gives the symbol the value
  abbrev IsAssigned : Type 0
  IsAssigned = (l : Line) × (l.ended ≡ true) × HasNoLf l.bytes × (is_within l ≡ true) × (effect tree prefix l ≡ Assigns s g)

  line_assigns : (f : SymbolFacts) → slice_get tree.symbols s.0 ≡ Some f → allowed_by f.symbol_type g ≡ true → IsAssigned
  unfolding effect
  line_assigns f at ok =
      let defined = formed.typed_defined s f at (λ untyped. untyped_not f.symbol_type g untyped ok) in
      let named : HasNames tree = has_names tree formed in
      let known = named s defined in
      let (value, is) = sets prefix.is_raw (name_of tree s) s f.symbol_type g ok in
      let few : length prefix.prefix ≤ 64 = short_prefix tree prefix stream is_pre formed named s f at defined in
      let body = (prefix.prefix ++ name_of tree s) ++ 61 ∷ value in
      let fits : length body ≤ 65535 = (let v = is.short in let n =
      known.1 in omega (arith, v, n, few, length-append (prefix.prefix ++ name_of tree s) (61 ∷ value), length-append prefix.prefix (name_of tree s))) in (
        line stream 1 body true,
        refl,
        set_no_lf tree prefix stream is_pre formed named s f at defined value is.none,
        is_within-line stream 1 body true fits,
        set_says tree prefix stream is_pre formed named s f at defined value is.plain ∙ is.means,
      )

  by_facts : (o : Option SymbolFacts) → slice_get tree.symbols s.0 ≡ o → allowed_for o g ≡ true → IsAssigned
  by_facts None at ok = absurd (true≢false (sym ok))
  by_facts (Some f) at ok = line_assigns f at ok

  pub value_assigned : allowed tree s g ≡ true → IsAssigned
  value_assigned ok = by_facts (slice_get tree.symbols s.0) refl ok

pub allowed_assigned : AllowedAreAssigned
allowed_assigned tree prefix s g formed is_pre ok = value_assigned tree prefix [] is_pre formed s g ok
