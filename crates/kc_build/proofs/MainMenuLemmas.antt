-- The title of the main menu, by the lines that begin entries.
use Rattle.std.proofs.{Common.{List, None, Option, Some, [], ap, codes, get_or, length, refl, sym, take, ℕ, ◌++◌, ◌+◌, ◌<◌, ◌∙◌, ◌∷◌, ◌≡◌, ◌≤◌}, lemmas.List.{Elements.filter_map-append, append-nil, take_more}}
use Rattle.std.specs.{List.{cons_option, filter_map}, Option.unwrap_or}
use Rattle.kc_language.specs.{Expansion.last_of, Statements.{Located, Numbered, statements}, Symbols.facts_with}
use Rattle.kc_entries.specs.{Entries.{lines_in, lines_of, own_lines, own_of}, EntryStarts.start_of, PartsOfSymbols.title_of, StatementViews.{attribute_view, head_view}, declared.{entries.{AttributeLine.AttributeLine, Entries.Entries, Entry.Entry}, statement.{Attribute.Attribute, Head.Head}}}
use Rattle.kc_entries.specs.declared.statement.Attribute.TheVariants as attribute
use Rattle.kc_entries.specs.declared.statement.Head.TheVariants as head
use Rattle.kc_entries.proofs.{EntryLemmas.take-whole, ListLemmas.last_of-push}

abbrev title : Entry → Option (List ℕ)
title x = title_of (head_view x.head)

abbrev titled : List (List ℕ) → List ℕ
titled ts = unwrap_or (last_of ts) (codes "Main menu")

-- that of the last `mainmenu` line before a number of entries
abbrev pub title_before : List Entry → ℕ → List ℕ
title_before xs i = titled (filter_map title (take i xs))

no-title : (a : Attribute) → title_of (attribute_view a) ≡ None
no-title attribute.Help = refl
no-title _ = refl

-- attributes have no title
own-titles : (x : Entry) (own : List AttributeLine) (more : List (Located Numbered)) → filter_map title_of (statements (own_lines x own ++ more)) ≡ filter_map title_of (statements more)
own-titles x [] more = refl
own-titles x (a ∷ own) more = ap (λ o. cons_option o (filter_map title_of (statements (own_lines x own ++ more)))) (no-title a.attribute) ∙ own-titles x own more

titles : (xs : List Entry) (ls : List AttributeLine) → filter_map title_of (statements (lines_of xs ls)) ≡ filter_map title xs
titles [] ls = refl
titles (x ∷ xs) ls =
    ap (cons_option (title_of (head_view x.head))) (own-titles x (own_of x (start_of xs (length ls)) ls) (lines_of xs ls) ∙ titles xs ls)

pub title-all : (es : Entries) (names : List (List ℕ)) (i : ℕ) → length es.first_lines.items ≤ i → title_before es.first_lines.items i ≡ (facts_with names (lines_in es)).main_menu
title-all es names i l =
    ap (λ xs. titled (filter_map title xs)) (take-whole es.first_lines.items i l) ∙ ap titled (sym (titles es.first_lines.items es.attributes.items))

module _ (xs : List Entry) (i : ℕ) (x : Entry) (below : i < length xs) (at : x ≡ get_or xs i x) where
  next : (o : Option (List ℕ)) → title x ≡ o → title_before xs (i + 1) ≡ titled (filter_map title (take i xs) ++ cons_option o [])
  next o e =
      ap (λ ys. titled (filter_map title ys)) (take_more xs i x below ∙ ap (λ y. take i xs ++ y ∷ []) (sym at))
      ∙ ap titled (filter_map-append title (take i xs) (x ∷ []))
      ∙ ap (λ p. titled (filter_map title (take i xs) ++ cons_option p [])) e

  -- an entry that is a `mainmenu` line, and another one
  pub title-new : (t : List ℕ) → title x ≡ Some t → t ≡ title_before xs (i + 1)
  title-new t e = sym (next (Some t) e ∙ ap (λ o. unwrap_or o (codes "Main menu")) (last_of-push (filter_map title (take i xs)) t))

  pub title-same : ((t : _) → x.head ≡ head.MainMenu t → ⊥) → title_before xs i ≡ title_before xs (i + 1)
  title-same other = sym (next None (by x.head refl) ∙ ap titled (append-nil (filter_map title (take i xs))))
    where
      by : (h : Head) → x.head ≡ h → title_of (head_view h) ≡ None
      by (head.MainMenu t) e = absurd (other t e)
      by _ e = refl
