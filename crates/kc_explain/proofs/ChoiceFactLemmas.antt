-- The facts about a choice, by its row and its entry.
use Rattle.std.proofs.Common.{◌≡◌, ℕ, suc, Bool, true, false, cond, ◌&&◌, ◌||◌, List, [], ◌∷◌, ◌++◌, map, not, Option, Some, None, refl, ap, sym, ◌∙◌, append-nil}
use Rattle.std.specs.Prelude.{if◌then◌else◌, option_map, slice_get}
use Rattle.std.specs.List.{cons_option, enumerate_from, filter_map, flat_map, list_any}
use Rattle.std.specs.Option.{option_and_then}
use Rattle.std.proofs.lemmas.List.{map-append}
use Rattle.kc_language.specs.ConfigFile.{StreamLocation, place_at}
use Rattle.kc_language.specs.Expansion.{attributes}
use Rattle.kc_language.specs.Expressions.{Form, same_symbol}
use Rattle.kc_language.specs.Statements.{Located, Numbered}
use Rattle.kc_language.specs.Symbols.{StatedDefault, choice_number, listed, members_of, single_symbol, stated_default}
use Rattle.kc_language.specs.Texts.{known}
use Rattle.kc_language.specs.Values.{ChoicePlace, GivenText, GivenTruth, GivenValue, Member, choice_at, is_n, is_yes, mode_of}
use Rattle.kc_language.specs.declared.expressions.{SymId.{SymId}, Tri.{Tri}}
use Rattle.kc_outcome.specs.Explanations as rules
use Rattle.kc_entries.specs.Entries.{first_line}
use Rattle.kc_entries.specs.declared.entries.Entry.{Entry}
use Rattle.kc_solve.specs.Answers.{prompts_condition}
use Rattle.kc_tree.specs.EntryViews.{index_of}
use Rattle.kc_tree.specs.Layouts.{entry_at, index_at, statements_in}
use Rattle.kc_tree.specs.declared.layout.Layout.{Layout}
use Rattle.kc_tree.specs.declared.rows.{Choice.{Choice}, EntryId.{EntryId}}
use Rattle.kc_tree.proofs.ChoiceLemmas.{choice-at, member-is}
use Rattle.kc_user.specs.PartsOfConfigFile.{member_place}
use Rattle.kc_explain.specs.ChoiceFacts.{choice_told, is_shown_member, is_yes_given, member_told, members_in, members_told, mode_told, preset_told, selected_told, selection_told, stated_told}
use Rattle.kc_explain.specs.FactLists.{choice_of, depends, located, parts_told, prompts_at}
use Rattle.kc_explain.specs.FactViews.{FactView, ModeIs, UserGave, fact_in}
use Rattle.kc_explain.specs.LineViews.{AreAt, at_entry, line_at, lines_of}
use Rattle.kc_explain.specs.PartsOfExplanations.{dependency_parts}
use Rattle.kc_explain.specs.StatedFacts.{counts}
use Rattle.kc_explain.specs.declared.teller.Teller.{Teller}
use Rattle.kc_explain.proofs.FactLemmas.{parts-told}
use Rattle.kc_explain.proofs.LineLemmas.{entry-none, entry-there}
use Rattle.kc_explain.proofs.PartLemmas.{map-twice, through-map}
use Rattle.kc_explain.proofs.StatedLemmas.{members-are}
use Rattle.kc_explain.proofs.WalkLemmas.{choice-none, lines-are}

-- ---- Lists that are seen another way
module _ {X Y Z : Type 0} (p : Z → Bool) (q : X → Bool) (v : X → Z) (f : Y → Option X) (same : (y : Y) (x : X) → f y ≡ Some x → p (v x) ≡ q x) where
  through-kept : (ys : List Y) → rules.through p (map v (filter_map f ys)) ≡ map v (rules.through q (filter_map f ys))
  through-kept [] = refl
  through-kept (y ∷ ys) = by (f y) refl (through-kept ys)
    where
      pass : (x : X) (xs : List X) (b : Bool) → rules.through p (map v xs) ≡ map v (rules.through q xs) →
          cond b (v x ∷ []) (v x ∷ rules.through p (map v xs)) ≡ map v (cond b (x ∷ []) (x ∷ rules.through q xs))
      pass x xs true e = refl
      pass x xs false e = ap (λ r. v x ∷ r) e

      by : (o : Option X) → f y ≡ o → rules.through p (map v (filter_map f ys)) ≡ map v (rules.through q (filter_map f ys)) →
          rules.through p (map v (cons_option o (filter_map f ys))) ≡ map v (rules.through q (cons_option o (filter_map f ys)))
      by None h e = e
      by (Some x) h e = ap (λ b. cond b (v x ∷ []) (v x ∷ rules.through p (map v (filter_map f ys)))) (same y x h) ∙ pass x (filter_map f ys) (q x) e

  any-kept : (ys : List Y) → list_any p (map v (filter_map f ys)) ≡ list_any q (filter_map f ys)
  any-kept [] = refl
  any-kept (y ∷ ys) = by (f y) refl (any-kept ys)
    where
      by : (o : Option X) → f y ≡ o → list_any p (map v (filter_map f ys)) ≡ list_any q (filter_map f ys) →
          list_any p (map v (cons_option o (filter_map f ys))) ≡ list_any q (cons_option o (filter_map f ys))
      by None h e = e
      by (Some x) h e = (λ j. same y x h j || e j)

flat-one : {X Y : Type 0} (f : X → Y) (xs : List X) → flat_map (λ x. f x ∷ []) xs ≡ map f xs
flat-one f [] = refl
flat-one f (x ∷ xs) = ap (λ r. f x ∷ r) (flat-one f xs)

-- ---- The entry of a choice
pub record IsChoiceEntry (l : Layout) (k : ℕ) (e : EntryId) : Type 0 where
  pub index : ℕ
  pub at : index_at l e.0 ≡ Some index
  pub entries : rules.choice_entry (statements_in l) k ≡ index ∷ []
  pub number : choice_number (statements_in l) index ≡ k
  pub members : members_in l k ≡ members_of (statements_in l) k

pub choice-entry-is : (l : Layout) (k : ℕ) (e : EntryId) → AreAt l (e ∷ []) (rules.choice_entry (statements_in l) k) → IsChoiceEntry l k e
choice-entry-is l k e a = by (slice_get l.choices.items k) refl
  where
    one : (i : Option ℕ) (is : List ℕ) (j : ℕ) → i ∷ [] ≡ map Some is → is ≡ j ∷ [] → i ≡ Some j
    one i is j h g = let same : i ∷ [] ≡ Some j ∷ [] = h ∙ ap (map Some) g in cc

    by : (o : Option Choice) → slice_get l.choices.items k ≡ o → IsChoiceEntry l k e
    by None h =
        let none = choice-none l k (sym h) in
        absurd (let no : index_at l e.0 ∷ [] ≡ [] = a ∙ sym none in cc)
    by (Some c) h =
        let is = choice-at l k c h in
        let entries : rules.choice_entry (statements_in l) k ≡ index_of l.entries (is.0) ∷ [] = lines-are l k ∙ ap (λ o. listed (option_map (index_of l.entries) o)) (is.1).at in
        record {
          index = index_of l.entries (is.0);
          at = one (index_at l e.0) (rules.choice_entry (statements_in l) k) (index_of l.entries (is.0)) a entries;
          entries = entries;
          number = (is.1).number;
          members = ap (λ (o : Option Choice). elim o [ None ↦ [] | Some d ↦ d.members.items ]) h ∙ l.laid.members k c h;
        }

line-here : (l : Layout) (at i : ℕ) (line : Located Numbered) → index_at l at ≡ Some i → Some line ≡ line_at l at → Some line ≡ slice_get (lines_of l) i
line-here l at i line a h = by (entry_at l at) refl
  where
    by : (o : Option Entry) → entry_at l at ≡ o → Some line ≡ slice_get (lines_of l) i
    by None e = absurd (let no : Some line ≡ None = h ∙ ap (option_map first_line) e in cc)
    by (Some x) e =
        let is = entry-there l at x e in
        let same : i ≡ index_of l.entries is.number = (let one : Some i ≡ Some (index_of l.entries is.number) = sym a ∙ is.index in cc) in
        h ∙ ap (option_map first_line) e ∙ sym is.first ∙ ap (slice_get (lines_of l)) (sym same)

-- ---- What a choice selects, step by step
module _ (r : Teller) (k : ℕ) (e : EntryId) where
  pub selected-member : (m : SymId) (b : Bool) → is_shown_member r k m ≡ b → member_told r m ∷ (if b then [] else preset_told r k e) ≡ selected_told r k e (Some (Member m))
  selected-member m b h = ap (λ c. member_told r m ∷ (if c then [] else preset_told r k e)) (sym h)

  pub preset-by : (b : Bool) → list_any counts (stated_told r k e) ≡ b → rules.through counts (stated_told r k e) ++ (if b then [] else members_told r (members_in r.layout.now k)) ≡ preset_told r k e
  preset-by b h = ap (λ c. rules.through counts (stated_told r k e) ++ (if c then [] else members_told r (members_in r.layout.now k))) (sym h)

  pub choice-by : (line : Located Numbered) (mode : Tri) (b : Bool) → mode ≡ mode_of r.solved.now.tree (known r.solved.now) (choice_at r.solved.now.tree k) → is_n mode ≡ b →
      (mode_told r e line mode ++ at_entry r.layout.now (prompts_at r) e) ++ (if b then [] else selection_told r k e) ≡ choice_told r k e line
  choice-by line mode b m h =
      (λ j. (mode_told r e line (m j) ++ at_entry r.layout.now (prompts_at r) e) ++ (if (sym h ∙ ap is_n m) j then [] else selection_told r k e))

-- ---- The member that the user chose
pub member_is : (m : Option SymId) → member_place m ≡ option_map Member m
member_is None = refl
member_is (Some m) = refl

pub chosen_by : (o : Option GivenValue) (line : Option StreamLocation) → (if is_yes_given o then line else None) ≡ option_and_then (λ g. if is_yes g then line else None) o
chosen_by None line = refl
chosen_by (Some g) line = refl

-- ---- The choice
module _ (r : Teller) (k : ℕ) (e : EntryId) (is : IsChoiceEntry r.layout.now k e) where
  abbrev l : Layout
  l = r.layout.now

  abbrev ss : List Numbered
  ss = statements_in r.layout.now

  at-index : {X : Type 0} (f : ℕ → List X) → at_entry l f e ≡ f is.index
  at-index f = ap (λ o. flat_map f (listed o)) is.at ∙ append-nil (f is.index)

  -- its defaults
  abbrev read : ℕ → Numbered → Option (SymId × Option Form)
  read n = rules.default_member (members_of ss n)

  abbrev default_fact : rules.Said (SymId × Option Form) → FactView
  default_fact d = fact_in (lines_of l) (rules.member_default_fact ss r.solved.now.tree r.input.now (known r.solved.now) d)

  abbrev counts_rule : rules.Said (SymId × Option Form) → Bool
  counts_rule d = rules.counts ss r.solved.now.tree r.input.now (known r.solved.now) is.index d

  stated-is : stated_told r k e ≡ map default_fact (rules.default_members ss is.index)
  stated-is = members-are l r.solved.now r.input.now k e
      ∙ at-index (λ i. map default_fact (rules.said_at ss (read k) i))
      ∙ ap (λ n. map default_fact (rules.said_at ss (read n) is.index)) (sym is.number)

  member-of : (s : Numbered) (d : SymId × Option Form) (n : ℕ) → read n s ≡ Some d → list_any (same_symbol (d.0)) (members_of ss n) ≡ true
  member-of s d n h = by-default (stated_default s) h
    where
      by-member : (g : StatedDefault) (m : SymId) (b : Bool) → list_any (same_symbol m) (members_of ss n) ≡ b → (if b then Some (m, g.when) else None) ≡ Some d →
          list_any (same_symbol (d.0)) (members_of ss n) ≡ true
      by-member g m true e h = let same : m ≡ d.0 = ap (λ (o : Option (SymId × Option Form)). elim o [ None ↦ m | Some y ↦ y.0 ]) h in ap (λ t. list_any (same_symbol t) (members_of ss n)) (sym same) ∙ e
      by-member g m false e h = absurd cc

      by-symbol : (g : StatedDefault) (o : Option SymId) → option_and_then (λ m. if list_any (same_symbol m) (members_of ss n) then Some (m, g.when) else None) o ≡ Some d →
          list_any (same_symbol (d.0)) (members_of ss n) ≡ true
      by-symbol g None h = absurd cc
      by-symbol g (Some m) h = by-member g m (list_any (same_symbol m) (members_of ss n)) refl h

      by-default : (o : Option StatedDefault) → option_and_then (λ (g : StatedDefault). option_and_then (λ m. if list_any (same_symbol m) (members_of ss n) then Some (m, g.when) else None) (single_symbol g.value)) o ≡ Some d →
          list_any (same_symbol (d.0)) (members_of ss n) ≡ true
      by-default None h = absurd cc
      by-default (Some g) h = by-symbol g (single_symbol g.value) h

  abbrev placed : ℕ → SymId × Option Form → rules.Said (SymId × Option Form)
  placed i x = record { entry = is.index; at = i; what = x }

  abbrev one_said : ℕ × Numbered → Option (rules.Said (SymId × Option Form))
  one_said = λ (i, s). option_map (λ x. placed i x) (read (choice_number ss is.index) s)

  counts-by : (p : ℕ × Numbered) (d : rules.Said (SymId × Option Form)) → one_said p ≡ Some d → counts (default_fact d) ≡ counts_rule d
  counts-by p d h = by (read (choice_number ss is.index) (p.1)) refl h
    where
      by : (o : Option (SymId × Option Form)) → read (choice_number ss is.index) (p.1) ≡ o → option_map (λ x. placed (p.0) x) o ≡ Some d →
          counts (default_fact d) ≡ counts_rule d
      by None e h = absurd cc
      by (Some x) e h =
          let same : placed (p.0) x ≡ d = (let one : Some (placed (p.0) x) ≡ Some d = h in cc) in
          let named : list_any (same_symbol ((d.what).0)) (members_of ss (choice_number ss is.index)) ≡ true =
          ap (λ (y : rules.Said (SymId × Option Form)). list_any (same_symbol ((y.what).0)) (members_of ss (choice_number ss is.index))) (sym same) ∙ member-of (p.1) x (choice_number ss is.index) e in
          ap (λ b. not (is_n (rules.line_value ss r.solved.now.tree r.input.now (known r.solved.now) (λ (y : SymId × Option Form). y.1) d)) && (b && not (is_n (prompts_condition r.solved.now ((d.what).0))))) (sym named)

  abbrev said : List (ℕ × Numbered)
  said = enumerate_from (suc is.index) (attributes ss is.index)

  through-is : rules.through counts (stated_told r k e) ≡ map default_fact (rules.through counts_rule (rules.default_members ss is.index))
  through-is = ap (rules.through counts) stated-is ∙ through-kept counts counts_rule default_fact one_said counts-by said

  any-is : list_any counts (stated_told r k e) ≡ list_any counts_rule (rules.default_members ss is.index)
  any-is = ap (list_any counts) stated-is ∙ any-kept counts counts_rule default_fact one_said counts-by said

  -- what it selects
  abbrev worth : SymId → Bool
  worth m = not (is_n (prompts_condition r.solved.now m))

  members-is : members_told r (members_in l k) ≡ located r (map (rules.member_fact ss r.solved.now.tree r.input.now (known r.solved.now)) (rules.through worth (members_of ss (choice_number ss is.index))))
  members-is =
      ap (members_told r) (is.members ∙ ap (members_of ss) (sym is.number))
      ∙ ap (rules.through counts) (flat-one (member_told r) (members_of ss (choice_number ss is.index)))
      ∙ through-map counts worth (member_told r) (λ m. refl) (members_of ss (choice_number ss is.index))
      ∙ map-twice (fact_in (lines_of l)) (rules.member_fact ss r.solved.now.tree r.input.now (known r.solved.now)) (rules.through worth (members_of ss (choice_number ss is.index)))

  preset-is : preset_told r k e ≡ located r (rules.preset_facts ss r.solved.now.tree r.input.now (known r.solved.now) is.index)
  preset-is =
      (λ j. through-is j ++ (if any-is j then [] else members-is j))
      ∙ (λ j. map-twice (fact_in (lines_of l)) (rules.member_default_fact ss r.solved.now.tree r.input.now (known r.solved.now)) (rules.through counts_rule (rules.default_members ss is.index)) j
      ++ by (list_any counts_rule (rules.default_members ss is.index)) j)
      ∙ sym (map-append (fact_in (lines_of l)) (map (rules.member_default_fact ss r.solved.now.tree r.input.now (known r.solved.now)) (rules.through counts_rule (rules.default_members ss is.index)))
      (if list_any counts_rule (rules.default_members ss is.index) then []
      else map (rules.member_fact ss r.solved.now.tree r.input.now (known r.solved.now)) (rules.through worth (members_of ss (choice_number ss is.index)))))
    where
      by : (b : Bool) → (if b then [] else located r (map (rules.member_fact ss r.solved.now.tree r.input.now (known r.solved.now)) (rules.through worth (members_of ss (choice_number ss is.index)))))
          ≡ located r (if b then [] else map (rules.member_fact ss r.solved.now.tree r.input.now (known r.solved.now)) (rules.through worth (members_of ss (choice_number ss is.index))))
      by true = refl
      by false = refl

  shown-is : (m : SymId) → is_shown_member r k m ≡ rules.is_shown_member ss r.solved.now.tree r.input.now (known r.solved.now) is.index m
  shown-is m = ap (λ b. b && not (is_n (prompts_condition r.solved.now m))) (member-is l k m ∙ ap (λ n. list_any (same_symbol m) (members_of ss n)) (sym is.number))

  selected-is : (chosen : Option GivenValue) → selected_told r k e chosen ≡ located r (rules.selection_facts ss r.solved.now.tree r.input.now (known r.solved.now) is.index chosen)
  selected-is None = preset-is
  selected-is (Some (GivenTruth t)) = preset-is
  selected-is (Some (GivenText t)) = preset-is
  selected-is (Some (Member m)) =
      (λ j. member_told r m ∷ (if shown-is m j then [] else preset-is j))
      ∙ ap (λ t. member_told r m ∷ t) (by (rules.is_shown_member ss r.solved.now.tree r.input.now (known r.solved.now) is.index m))
    where
      by : (b : Bool) → (if b then [] else located r (rules.preset_facts ss r.solved.now.tree r.input.now (known r.solved.now) is.index))
          ≡ located r (if b then [] else rules.preset_facts ss r.solved.now.tree r.input.now (known r.solved.now) is.index)
      by true = refl
      by false = refl

  -- all its facts
  abbrev chosen : Option GivenValue
  chosen = place_at r.input.now.places (ChoicePlace k)

  abbrev selection : List rules.Fact
  selection = rules.UserGave (rules.choosing_line ss r.solved.now.tree r.input.now (known r.solved.now) (place_at r.input.now.places (ChoicePlace k))) (ChoicePlace k) (place_at r.input.now.places (ChoicePlace k))
      ∷ rules.selection_facts ss r.solved.now.tree r.input.now (known r.solved.now) is.index (place_at r.input.now.places (ChoicePlace k))

  selection-is : selection_told r k e ≡ located r selection
  selection-is = ap (λ t. UserGave (rules.choosing_line ss r.solved.now.tree r.input.now (known r.solved.now) (place_at r.input.now.places (ChoicePlace k))) (ChoicePlace k) (place_at r.input.now.places (ChoicePlace k)) ∷ t)
      (selected-is (place_at r.input.now.places (ChoicePlace k)))

  pub choice-is : (line : Located Numbered) → Some line ≡ line_at l e.0 → choice_told r k e line ≡ choice_of r k
  choice-is line h =
      let mode = mode_of r.solved.now.tree (known r.solved.now) (choice_at r.solved.now.tree k) in
      let parts = rules.part_facts ss r.solved.now.tree r.input.now (known r.solved.now) (rules.dependency_parts ss is.index) in
      let prompts = flat_map (rules.prompt_facts ss r.solved.now.tree r.input.now (known r.solved.now)) (rules.prompt_lines ss (is.index ∷ [])) in
      let rest = if is_n mode then [] else selection in
      let own : parts_told r.solved.now (depends r e) ≡ located r parts =
      ap (parts_told r.solved.now) (at-index (dependency_parts (lines_of l))) ∙ parts-told l r.solved.now r.input.now (rules.dependency_parts ss is.index) in
      let see = fact_in (lines_of l) in
      let front = rules.ModeIs is.index k mode ∷ parts in
      (λ j. ((ModeIs (line-here l e.0 is.index line is.at h j) mode ∷ own j) ++ at-index (prompts_at r) j) ++ (if is_n mode then [] else selection-is j))
      ∙ ap (λ t. (located r front ++ located r prompts) ++ t) (by (is_n mode))
      ∙ ap (λ t. t ++ located r rest) (sym (map-append see front prompts))
      ∙ sym (map-append see (front ++ prompts) rest)
      ∙ ap (located r) (sym (append-nil (rules.choice_facts_at ss r.solved.now.tree r.input.now (known r.solved.now) k is.index)))
      ∙ ap (λ js. located r (flat_map (rules.choice_facts_at ss r.solved.now.tree r.input.now (known r.solved.now) k) js)) (sym is.entries)
    where
      by : (b : Bool) → (if b then [] else located r selection) ≡ located r (if b then [] else selection)
      by true = refl
      by false = refl

  -- an entry that is there begins with a line
  pub choice-missing : None ≡ line_at l e.0 → [] ≡ choice_of r k
  choice-missing h = by (entry_at l e.0) refl
    where
      by : (o : Option Entry) → entry_at l e.0 ≡ o → [] ≡ choice_of r k
      by None q = absurd (let no : None ≡ Some is.index = sym (entry-none l e.0 q) ∙ is.at in cc)
      by (Some x) q = absurd (let no : None ≡ Some (first_line x) = h ∙ ap (option_map first_line) q in cc)

pub choice-unknown : (r : Teller) (k : ℕ) → AreAt r.layout.now [] (rules.choice_entry (statements_in r.layout.now) k) → [] ≡ choice_of r k
choice-unknown r k a = by (rules.choice_entry (statements_in r.layout.now) k) a
  where
    by : (js : List ℕ) → [] ≡ map Some js → [] ≡ located r (flat_map (rules.choice_facts_at (statements_in r.layout.now) r.solved.now.tree r.input.now (known r.solved.now) k) js)
    by [] e = refl
    by (j ∷ js) e = absurd cc
