-- The located parts of an explanation have the values of the conditions that the chapter Symbols gives.
use Rattle.std.proofs.Common.{◌≡◌, refl, ap, sym, ◌∙◌, append_assoc, inl, inr}
use Rattle.std.proofs.lemmas.List.{map-append}
use Rattle.std.specs.List.{enumerate_from, filter_map, flat_map}
use Rattle.std.specs.Prelude.{List, None, filter, Option, Some, [], if◌then◌else◌, map, option_map, slice_get, suc, ℕ, ◌+◌, ◌++◌, ◌∷◌}
use Rattle.kc_language.specs.{Expansion.{NoBracket, attributes, bracket, enclosing, last_of, opened}, Expressions.{Form, SymbolValue, least, lesser, value}, Symbols.{dependency_in, visible_in, TreeFacts, block_conjuncts, choice_number, dependency, guarded, is_block, listed, of_block, own_dependencies, own_visible, shown_under}, Statements.{IfLine, InputPrompt, MenuLine, Numbered}, Values.{choice_at, condition, mode_of}, declared.{expressions.{SymId.{SymId}, Tri.{Tri, TheVariants.{Y}}}, statements.Block.{Block}}}
use Rattle.kc_outcome.specs.Explanations.{ModeOf, ConditionPart, Said, block_parts, dependency_parts, line_parts, mode_parts, part_value, parts_at, parts_value, prompt_parts, shown_parts, worth}
use Rattle.kc_outcome.proofs.FactLists.{found}
use Rattle.kc_outcome.proofs.TriLemmas.{least-append, lesser-assoc, lesser-comm, lesser-y}

module _ (ss : List Numbered) (tree : TreeFacts) (known : SymId → SymbolValue) where
  abbrev worths : List Form → List Tri
  worths = map (value known tree.modules)

  abbrev part_values : List ConditionPart → List Tri
  part_values = map (part_value tree known)

  said_values : (read : Numbered → Option Form) (i n : ℕ) (xs : List Numbered) →
      part_values (map {A = Said Form} (λ l. worth l.at l.what) (filter_map (λ (k, l). option_map (λ x. record { entry = i; at = k; what = x }) (read l)) (enumerate_from n xs)))
      ≡ worths (filter_map read xs)
  said_values read i n [] = refl
  said_values read i n (x ∷ xs) = elim (found (read x)) [
    | inl e ↦ rw e (said_values read i (n + 1) xs)
    | inr f ↦ rw f.1 (ap (λ ts. value known tree.modules f.0 ∷ ts) (said_values read i (n + 1) xs))
  ]

  own_values : (i : ℕ) → part_values (parts_at ss dependency_in i) ≡ worths (own_dependencies ss i)
  own_values i = said_values dependency_in i (suc i) (attributes ss i)

  block_by : (j : ℕ) (o : Option Numbered) (ps : List ConditionPart) (es : List Form) → part_values ps ≡ worths es →
      part_values (elim o [ Some (IfLine e) ↦ worth j e ∷ [] | Some (MenuLine t) ↦ ps | _ ↦ [] ])
      ≡ worths (if is_block Block.Menu (opened (elim o [ None ↦ NoBracket | Some s ↦ bracket s ])) then es else elim o [ Some (IfLine e) ↦ e ∷ [] | _ ↦ [] ])
  block_by j (Some (MenuLine t)) ps es h = h
  block_by j _ ps es h = refl

  both_values : (ps qs : List ConditionPart) (es ds : List Form) → part_values ps ≡ worths es → part_values qs ≡ worths ds → part_values (ps ++ qs) ≡ worths (es ++ ds)
  both_values ps qs es ds h k = map-append (part_value tree known) ps qs ∙ ap (λ ts. ts ++ part_values qs) h ∙ ap (λ ts. worths es ++ ts) k
      ∙ sym (map-append (value known tree.modules) es ds)

  block_values : (js : List ℕ) → part_values (flat_map (block_parts ss) js) ≡ worths (flat_map (block_conjuncts ss) js)
  block_values [] = refl
  block_values (j ∷ js) = both_values (block_parts ss j) (flat_map (block_parts ss) js) (block_conjuncts ss j) (flat_map (block_conjuncts ss) js)
      (block_by j (slice_get ss j) (parts_at ss dependency_in j) (own_dependencies ss j) (own_values j)) (block_values js)

  mode_by : (o : Option ℕ) → least (part_values (map (λ j. record { at = j; asks = ModeOf (choice_number ss j) }) (listed o)))
      ≡ elim (option_map (choice_number ss) o) [ None ↦ Y | Some k ↦ mode_of tree known (choice_at tree k) ]
  mode_by None = refl
  mode_by (Some j) = lesser-y (mode_of tree known (choice_at tree (choice_number ss j)))

  if_values : (at : ℕ) (w : Option Form) → part_values (map (worth at) (listed w)) ≡ worths (listed w)
  if_values at None = refl
  if_values at (Some e) = refl

  with_mode : (ps ms : List ConditionPart) (es : List Form) (t : Tri) → part_values ps ≡ worths es → least (part_values ms) ≡ t →
      parts_value tree known (ps ++ ms) ≡ lesser (least (worths es)) t
  with_mode ps ms es t h k = ap least (map-append (part_value tree known) ps ms) ∙ least-append (part_values ps) (part_values ms)
      ∙ ap (λ ts. lesser (least ts) (least (part_values ms))) h ∙ ap (lesser (least (worths es))) k

  own_and_blocks : (i : ℕ) → part_values (flat_map (block_parts ss) (enclosing ss i) ++ parts_at ss dependency_in i) ≡ worths (dependency ss i).conjuncts
  own_and_blocks i = both_values (flat_map (block_parts ss) (enclosing ss i)) (parts_at ss dependency_in i) (flat_map (block_conjuncts ss) (enclosing ss i))
      (own_dependencies ss i) (block_values (enclosing ss i)) (own_values i)

  -- What an entry depends on: the located parts have the value of the condition.
  pub dependency_is : (i : ℕ) → parts_value tree known (dependency_parts ss i) ≡ condition tree known (dependency ss i)
  dependency_is i = with_mode (flat_map (block_parts ss) (enclosing ss i) ++ parts_at ss dependency_in i) (mode_parts ss i) (dependency ss i).conjuncts _
      (own_and_blocks i) (mode_by (last_of (filter (of_block ss Block.Choice) (enclosing ss i))))

  -- So have those of a line, such as a default or a `select`, and those of a prompt: they depend on more.
  with_more : (i : ℕ) (qs : List ConditionPart) (es : List Form) → part_values qs ≡ worths es → parts_value tree known (dependency_parts ss i ++ qs)
      ≡ condition tree known (record { conjuncts = (dependency ss i).conjuncts ++ es; mode = (dependency ss i).mode })
  with_more i qs es h =
      let c = dependency ss i in
      let mode : Tri = elim c.mode [ None ↦ Y | Some k ↦ mode_of tree known (choice_at tree k) ] in
      ap least (map-append (part_value tree known) (dependency_parts ss i) qs) ∙ least-append (part_values (dependency_parts ss i)) (part_values qs)
      ∙ ap (λ t. lesser t (least (part_values qs))) (dependency_is i) ∙ ap (λ ts. lesser (condition tree known c) (least ts)) h
      ∙ exchange (least (worths c.conjuncts)) mode (least (worths es))
      ∙ ap (λ t. lesser t mode) (sym (ap least (map-append (value known tree.modules) c.conjuncts es) ∙ least-append (worths c.conjuncts) (worths es)))
    where
      exchange : (a m w : Tri) → lesser (lesser a m) w ≡ lesser (lesser a w) m
      exchange a m w = lesser-assoc a m w ∙ ap (lesser a) (lesser-comm m w) ∙ sym (lesser-assoc a w m)

  pub line_is : {X Y : Type 0} (own : X → Option Form) (l : Said X) (y : Y) → parts_value tree known (line_parts ss own l)
      ≡ condition tree known (guarded ss l.entry y (own l.what)).when
  line_is own l y = with_more l.entry (map (worth l.at) (listed (own l.what))) (listed (own l.what)) (if_values l.at (own l.what))

  visible_values : (js : List ℕ) → part_values (flat_map (parts_at ss visible_in) js) ≡ worths (flat_map (own_visible ss) js)
  visible_values [] = refl
  visible_values (j ∷ js) = both_values (parts_at ss visible_in j) (flat_map (parts_at ss visible_in) js) (own_visible ss j) (flat_map (own_visible ss) js)
      (said_values visible_in j (suc j) (attributes ss j)) (visible_values js)

  pub prompt_is : (p : Said (InputPrompt Form)) → parts_value tree known (prompt_parts ss p)
      ≡ condition tree known (shown_under ss p.entry (listed (p.what).when))
  prompt_is p =
      let menus = filter (of_block ss Block.Menu) (enclosing ss p.entry) in
      let c = dependency ss p.entry in let asked = flat_map (own_visible ss) menus in let ifs = listed (p.what).when in
      with_more p.entry (shown_parts ss p) (asked ++ ifs)
      (both_values (flat_map (parts_at ss visible_in) menus) (map (worth p.at) ifs) asked ifs (visible_values menus) (if_values p.at (p.what).when))
      ∙ ap (λ es. condition tree known (record { conjuncts = es; mode = c.mode })) (sym (append_assoc c.conjuncts asked ifs))

  -- The conjuncts of a prompt's condition, without the mode around it.
  pub prompt_worths : (p : Said (InputPrompt Form)) → worths (shown_under ss p.entry (listed (p.what).when)).conjuncts
      ≡ part_values (flat_map (block_parts ss) (enclosing ss p.entry) ++ parts_at ss dependency_in p.entry ++ shown_parts ss p)
  prompt_worths p =
      let menus = filter (of_block ss Block.Menu) (enclosing ss p.entry) in
      let c = dependency ss p.entry in let asked = flat_map (own_visible ss) menus in let ifs = listed (p.what).when in
      let own = flat_map (block_parts ss) (enclosing ss p.entry) ++ parts_at ss dependency_in p.entry in
      ap worths (append_assoc c.conjuncts asked ifs)
      ∙ sym (both_values own (shown_parts ss p) c.conjuncts (asked ++ ifs) (own_and_blocks p.entry)
      (both_values (flat_map (parts_at ss visible_in) menus) (map (worth p.at) ifs) asked ifs (visible_values menus) (if_values p.at (p.what).when)))
