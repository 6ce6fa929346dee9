-- The definitions of a symbol as they are written.
use Rattle.std.proofs.Common.{◌≡◌, ◌∙◌, ◌-◌, ◌++◌, ◌∷◌, [], Bool, true, false, cond, List, None, Option, Some, ℕ, suc, add-one, ap, drop, take, refl, sym, append-nil, append_assoc, codes, decimal}
use Rattle.std.proofs.Math.Seq.{drop-nil, take-nil}
use Rattle.std.proofs.lemmas.Grind.{flat_map-append}
use Rattle.std.proofs.lemmas.List.Sums.{take_while-cons}
use Rattle.std.specs.List.{slice_split, take_while}
use Rattle.std.specs.Prelude.{flat_map, option_map, slice_get}
use Rattle.std.specs.Option.{option_map_or}
use Rattle.kc_language.specs.Expansion.{Files, is_attribute, last_of}
use Rattle.kc_language.specs.Lines.{is_line_feed, physical_lines}
use Rattle.kc_language.specs.Statements.{HelpLine, Located, Numbered}
use Rattle.kc_language.specs.Symbols.{listed}
use Rattle.kc_outcome.specs.Explanations as rules
use Rattle.kc_outcome.specs.Explanations.{definition_lines, ends_in_help, excerpt, last_line, menu_path, statement_count, text_of_lines}
use Rattle.kc_entries.specs.Entries.{attribute_line, first_line, lines_in, lines_of as lines_of_entries, own_lines}
use Rattle.kc_entries.specs.declared.entries.{AttributeLine.{AttributeLine}, Entries.{Entries}, Entry.{Entry}}
use Rattle.kc_entries.specs.declared.statement.Attribute.{Attribute}
use Rattle.kc_entries.specs.declared.statement.Attribute.TheVariants as attribute
use Rattle.kc_entries.proofs.EntryLemmas.{front-is}
use Rattle.kc_entries.proofs.ListLemmas.{last_of-map}
use Rattle.kc_entries.proofs.PlaceLemmas.{drop-dropped}
use Rattle.kc_tree.specs.EntryViews.{index_of, own_attributes}
use Rattle.kc_tree.specs.Layouts.{entry_at, own_at, statements_in}
use Rattle.kc_tree.specs.declared.layout.Layout.{Layout}
use Rattle.kc_tree.specs.declared.rows.EntryId.{EntryId}
use Rattle.kc_tree.proofs.IndexLemmas.{attribute-is, head-is-none, lines-at, own-there}
use Rattle.kc_explain.specs.Excerpts.{definition_at, definition_of, ends_in_help as own_ends_in_help, excerpt_of, heading, is_help, last_number, lines_in_file}
use Rattle.kc_explain.specs.LineViews.{at_entry, lines_of}
use Rattle.kc_explain.specs.SourceLines.{comment, lines_left, with_text}
use Rattle.kc_explain.specs.SourceLines as source
use Rattle.kc_explain.proofs.LineLemmas.{at-there, entry-there}

-- ---- the lines of an entry among all lines
abbrev says_attribute : Located Numbered → Bool
says_attribute l = is_attribute l.statement

own-taken : (x : Entry) (own : List AttributeLine) (more : List (Located Numbered)) → take_while says_attribute more ≡ [] →
    take_while says_attribute (own_lines x own ++ more) ≡ own_lines x own
own-taken x [] more e = e
own-taken x (a ∷ own) more e =
    let line : Located Numbered = attribute_line x.file.value.items a.line a.attribute in
    take_while-cons says_attribute line (own_lines x own ++ more)
    ∙ ap (λ b. cond b (line ∷ take_while says_attribute (own_lines x own ++ more)) []) (attribute-is a.attribute)
    ∙ ap (λ r. line ∷ r) (own-taken x own more e)

none-taken : (xs : List Entry) (ls : List AttributeLine) → take_while says_attribute (lines_of_entries xs ls) ≡ []
none-taken [] ls = refl
none-taken (x ∷ xs) ls =
    let more : List (Located Numbered) = _ in
    take_while-cons says_attribute (first_line x) more ∙ ap (λ b. cond b (first_line x ∷ take_while says_attribute more) []) (head-is-none x.head)

abbrev says_help : Located Numbered → Bool
says_help l = elim l.statement [ HelpLine ↦ true | _ ↦ false ]

help-is : (a : Attribute) → says_help (attribute_line [] 0 a) ≡ is_help a
help-is attribute.Help = refl
help-is _ = refl

module _ (es : Entries) (e : ℕ) (x : Entry) (h : slice_get es.first_lines.items e ≡ Some x) where
  own-found : rules.own_lines (lines_in es) (index_of es e) ≡ own_lines x (own_attributes es e)
  own-found =
      ap (λ n. take_while says_attribute (drop n (lines_in es))) (sym (add-one (index_of es e)))
      ∙ ap (take_while says_attribute) (drop-dropped (lines_in es) (index_of es e) (first_line x) _ (lines-at es e ∙ ap (λ l. lines_of_entries l es.attributes.items) (front-is e es.first_lines.items x h)))
      ∙ own-taken x _ _ (none-taken (drop (suc e) es.first_lines.items) es.attributes.items)
      ∙ ap (own_lines x) (sym (own-there es e x h))

  last-found : last_line (lines_in es) (index_of es e) (first_line x) ≡ last_number x (own_attributes es e)
  last-found =
      let see : AttributeLine → Located Numbered = λ b. attribute_line x.file.value.items b.line b.attribute in
      ap (λ (ls : List (Located Numbered)). option_map_or (λ l. l.line) (last_of ls) x.line) own-found
      ∙ ap (λ (o : Option (Located Numbered)). option_map_or (λ l. l.line) o x.line) (last_of-map see (own_attributes es e))
      ∙ by (last_of (own_attributes es e))
    where
      by : (o : Option AttributeLine) → option_map_or (λ (l : Located Numbered). l.line) (option_map (λ b. attribute_line x.file.value.items b.line b.attribute) o) x.line
          ≡ option_map_or (λ (a : AttributeLine). a.line) o x.line
      by None = refl
      by (Some a) = refl

  help-found : ends_in_help (lines_in es) (index_of es e) ≡ own_ends_in_help (own_attributes es e)
  help-found =
      let see : AttributeLine → Located Numbered = λ b. attribute_line x.file.value.items b.line b.attribute in
      ap (λ (ls : List (Located Numbered)). option_map_or says_help (last_of ls) false) own-found
      ∙ ap (λ (o : Option (Located Numbered)). option_map_or says_help o false) (last_of-map see (own_attributes es e))
      ∙ by (last_of (own_attributes es e))
    where
      by : (o : Option AttributeLine) → option_map_or says_help (option_map (λ b. attribute_line x.file.value.items b.line b.attribute) o) false
          ≡ option_map_or (λ (a : AttributeLine). is_help a.attribute) o false
      by None = refl
      by (Some a) = help-is a.attribute

-- ---- the lines of a definition in its file
excerpt-by : (bytes : List ℕ) (first last : ℕ) (has_text : Bool) → excerpt_of (slice_split is_line_feed bytes) first last has_text ≡ flat_map comment (excerpt bytes first last has_text)
unfolding physical_lines
excerpt-by bytes first last has_text = refl

no-lines : (n m : ℕ) → take n (drop {A = List ℕ} m []) ≡ []
no-lines n m = ap (take n) (drop-nil m) ∙ take-nil n

module _ (es : Entries) (e : ℕ) (x : Entry) (h : slice_get es.first_lines.items e ≡ Some x) where
  excerpt-is : (found : Option (List ℕ)) → lines_in_file (lines_left found) x (own_attributes es e)
      ≡ flat_map comment (flat_map (λ bytes. excerpt bytes x.line (last_line (lines_in es) (index_of es e) (first_line x)) (ends_in_help (lines_in es) (index_of es e))) (listed found))
  excerpt-is None =
      let last = last_number x (own_attributes es e) in
      λ j. flat_map comment (with_text (no-lines (last - x.line) (x.line - 1) j ++ no-lines (statement_count (own_ends_in_help (own_attributes es e)) (drop (last - 1) [])) (last - 1) j))
  excerpt-is (Some bytes) =
      (λ j. excerpt_of (slice_split is_line_feed bytes) x.line (sym (last-found es e x h) j) (sym (help-found es e x h) j))
      ∙ excerpt-by bytes x.line (last_line (lines_in es) (index_of es e) (first_line x)) (ends_in_help (lines_in es) (index_of es e))
      ∙ ap (flat_map comment) (sym (append-nil _))

-- ---- a definition
module _ (l : Layout) (files : Files) where
  comments-of : (i : ℕ) (x : Entry) (menus : List (List ℕ)) (ls : List (List ℕ)) →
      flat_map comment ((x.file.value.items ++ codes ":" ++ decimal x.line) ∷ menus ++ ls)
      ≡ heading x.file.value.items x.line ++ text_of_lines (codes "# ") menus ++ flat_map comment ls
  comments-of i x menus ls =
      ap (λ r. heading x.file.value.items x.line ++ r) (flat_map-append comment menus ls) ∙ sym (append_assoc (heading x.file.value.items x.line) (flat_map comment menus) (flat_map comment ls))

  pub definition-is : (e : EntryId) (x : Entry) (own : List AttributeLine) → Some x ≡ entry_at l e.0 → own ≡ own_at l e.0 →
      definition_of files l e x own ≡ at_entry l (definition_at files (lines_of l)) e
  definition-is e x own h o =
      let is = entry-there l e.0 x (sym h) in
      let i = index_of l.entries is.number in
      let mine : own ≡ own_attributes l.entries is.number = o ∙ ap (own_at l) is.stored in
      let menus : List (List ℕ) = menu_path (statements_in l) (index_of l.entries is.number) in
      (λ j. heading x.file.value.items x.line ++ text_of_lines (codes "# ") (at-there l (menu_path (statements_in l)) e.0 x is j)
      ++ lines_in_file (source.lines_of files x.file.value.items) x (mine j))
      ∙ ap (λ r. heading x.file.value.items x.line ++ text_of_lines (codes "# ") menus ++ r) (excerpt-is l.entries is.number x is.found (files.bytes x.file.value.items))
      ∙ sym (comments-of (index_of l.entries is.number) x menus _)
      ∙ sym (append-nil _)
      ∙ ap (λ (q : Option (Located Numbered)). flat_map (λ m. flat_map comment (definition_lines files (lines_of l) (index_of l.entries is.number) m)) (listed q)) (sym is.first)
      ∙ sym (at-there l (definition_at files (lines_of l)) e.0 x is)
