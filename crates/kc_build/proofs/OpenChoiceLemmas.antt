-- Which choice is open at a line: it is the last one that began before the line, and a line opens or closes it by its kind.
use Rattle.std.proofs.{Common.{Bool, List, None, Option, Some, [], ap, arith, cond, false, filter, length, refl, suc, sym, true, zero, ℕ, ◌++◌, ◌+◌, ◌-◌, ◌∙◌, ◌∷◌, ◌≡◌, ◌≤◌}, lemmas.List.{Elements.filter-append, append-nil}}
use Rattle.std.specs.{List.slice_get, Option.is_some, Prelude.option_map}
use Rattle.kc_language.specs.{Expansion.{Bracket, Closes, NoBracket, Opens, bracket, enclosing, last_of, opened}, Statements.{ChoiceLine, EndChoiceLine, EndIfLine, EndMenuLine, IfLine, MenuLine, Numbered}, Symbols.{choice_number, enclosing_choice, is_block, of_block}, declared.statements.Block.Block}
use Rattle.kc_language.specs.declared.statements.Block.TheVariants as block
use Rattle.kc_entries.specs.{ListFacts.AreChoicesApart, PartsOfSymbols.enclosing_block}
use Rattle.kc_entries.proofs.{EnclosingLemmas.{enclosing-closes, enclosing-last, enclosing-no, enclosing-opens, front, last-snoc, there}, ListLemmas.last_of-none, PlaceLemmas.count_next}
use Rattle.kc_build.specs.{Nesting.{AreBlocksClosed, IsWithin}, Standing.turned_choice}

map-none : (f : ℕ → ℕ) (o : Option ℕ) → option_map f o ≡ None → o ≡ None
map-none f None h = refl
map-none f (Some k) h = absurd cc

some-none : (k : ℕ) (o : Option ℕ) → o ≡ None → o ≡ Some k → ⊥
some-none k o n s = absurd (let no : None ≡ Some k = sym n ∙ s in cc)

front-snoc : (xs : List ℕ) (x : ℕ) → front (xs ++ x ∷ []) ≡ xs
front-snoc [] x = refl
front-snoc (y ∷ []) x = refl
front-snoc (y ∷ z ∷ xs) x = ap (λ l. y ∷ l) (front-snoc (z ∷ xs) x)

choice-by : (o : Option Numbered) → is_block block.Choice (opened (elim o [ None ↦ NoBracket | Some s ↦ bracket s ])) ≡ true → o ≡ Some ChoiceLine
choice-by (Some ChoiceLine) h = refl
choice-by _ h = absurd cc

module _ (ss : List Numbered) where
  abbrev begins : ℕ → Bool
  begins = of_block ss block.Choice

  abbrev last_choice : List ℕ → Option ℕ
  last_choice js = option_map (choice_number ss) (last_of (filter begins js))

  -- The innermost block at a line that closes a block, and what stands around the block.
  pub closed : (i k : ℕ) (s : Numbered) → i ≤ length ss → slice_get ss i ≡ Some s → bracket s ≡ Closes → enclosing_block ss i ≡ Some k → enclosing ss (suc i) ≡ enclosing ss k
  closed i k s l h b e = enclosing-closes ss i s h b ∙ ap front (enclosing-last ss i k l e) ∙ front-snoc (enclosing ss k) k

  -- nothing is closed where no block is open
  pub closed-none : (i : ℕ) (s : Numbered) → slice_get ss i ≡ Some s → bracket s ≡ Closes → enclosing_block ss i ≡ None → enclosing ss (suc i) ≡ []
  closed-none i s h b e = enclosing-closes ss i s h b ∙ ap front (last_of-none (enclosing ss i) e)

  begins-here : (i : ℕ) (s : Numbered) (b : Bracket) → slice_get ss i ≡ Some s → bracket s ≡ b → begins i ≡ is_block block.Choice (opened b)
  begins-here i s b h e = ap (λ (o : Option Numbered). is_block block.Choice (opened (elim o [ None ↦ NoBracket | Some t ↦ bracket t ]))) h ∙ ap (λ c. is_block block.Choice (opened c)) e

  -- the choice around what stands in a block
  inside : (i k : ℕ) → enclosing ss i ≡ enclosing ss k ++ k ∷ [] → enclosing_choice ss i ≡ option_map (choice_number ss) (last_of (filter begins (enclosing ss k) ++ cond (begins k) (k ∷ []) []))
  inside i k e = ap last_choice e ∙ ap (λ js. option_map (choice_number ss) (last_of js)) (filter-append begins (enclosing ss k) (k ∷ []))

  in-other : (i k : ℕ) → enclosing ss i ≡ enclosing ss k ++ k ∷ [] → begins k ≡ false → enclosing_choice ss i ≡ enclosing_choice ss k
  in-other i k e b =
      inside i k e ∙ ap (λ c. option_map (choice_number ss) (last_of (filter begins (enclosing ss k) ++ cond c (k ∷ []) []))) b
      ∙ ap (λ js. option_map (choice_number ss) (last_of js)) (append-nil (filter begins (enclosing ss k)))

  in-choice : (i k : ℕ) → enclosing ss i ≡ enclosing ss k ++ k ∷ [] → begins k ≡ true → enclosing_choice ss i ≡ Some (choice_number ss k)
  in-choice i k e b =
      inside i k e ∙ ap (λ c. option_map (choice_number ss) (last_of (filter begins (enclosing ss k) ++ cond c (k ∷ []) []))) b
      ∙ ap (option_map (choice_number ss)) (last-snoc (filter begins (enclosing ss k)) k)

  number-next : (i : ℕ) (b : Bool) → begins i ≡ b → choice_number ss (suc i) ≡ choice_number ss i + cond b 1 0
  number-next i b e = count_next begins i ∙ ap (λ c. choice_number ss i + cond c 1 0) e

  pub number-up : (i d : ℕ) → choice_number ss i ≤ choice_number ss (i + d)
  number-up i zero = let z : i + 0 ≡ i = omega arith in ap-le z
    where
      ap-le : i + 0 ≡ i → choice_number ss i ≤ choice_number ss (i + 0)
      ap-le z = let same : choice_number ss (i + 0) ≡ choice_number ss i = ap (choice_number ss) z in omega (arith, same)
  number-up i (suc d) =
      let z : i + suc d ≡ suc (i + d) = omega arith in
      let before = number-up i d in
      let next = number-next (i + d) (begins (i + d)) refl in
      let same : choice_number ss (i + suc d) ≡ choice_number ss (suc (i + d)) = ap (choice_number ss) z in
      omega (arith, before, next, same)

  module _ (apart : AreChoicesApart ss) where
    -- around a choice there is none
    choice-outside : (k : ℕ) → begins k ≡ true → enclosing_choice ss k ≡ None
    choice-outside k h = apart k (choice-by (slice_get ss k) h)

    -- The choice around a line is the last one that began before it.
    abbrev IsLast : ℕ → Type 0
    IsLast i = (k : ℕ) → enclosing_choice ss i ≡ Some k → suc k ≡ choice_number ss i

    last-other : (i j : ℕ) → begins i ≡ false → enclosing_choice ss (suc i) ≡ enclosing_choice ss i → IsLast i → IsLast (suc i)
    last-other i j b e ih k h = ih k (sym e ∙ h) ∙ (let n = number-next i false b in omega (arith, n))

    last-opens : (i : ℕ) (c : Bool) → begins i ≡ c → enclosing ss (suc i) ≡ enclosing ss i ++ i ∷ [] → IsLast i → IsLast (suc i)
    last-opens i true b e ih k h =
        let same : choice_number ss i ≡ k = (let s : Some (choice_number ss i) ≡ Some k = sym (in-choice (suc i) i e b) ∙ h in cc) in
        let n = number-next i true b in
        omega (arith, same, n)
    last-opens i false b e ih k h = last-other i i b (in-other (suc i) i e b) ih k h

    last-closes : (i m : ℕ) (c : Bool) → begins i ≡ false → begins m ≡ c → enclosing ss i ≡ enclosing ss m ++ m ∷ [] → enclosing ss (suc i) ≡ enclosing ss m → IsLast i → IsLast (suc i)
    last-closes i m true b t e f ih k h = absurd (some-none k (enclosing_choice ss m) (choice-outside m t) (sym (ap last_choice f) ∙ h))
    last-closes i m false b t e f ih k h = last-other i i b (ap last_choice f ∙ sym (in-other i m e t)) ih k h

    last-by : (i : ℕ) (s : Numbered) (b : Bracket) → i ≤ length ss → slice_get ss i ≡ Some s → bracket s ≡ b → IsLast i → IsLast (suc i)
    last-by i s (Opens b) l h e ih = last-opens i (begins i) refl (enclosing-opens ss i s b h e) ih
    last-by i s NoBracket l h e ih = last-other i i (begins-here i s NoBracket h e) (ap last_choice (enclosing-no ss i s h e)) ih
    last-by i s Closes l h e ih = by (enclosing_block ss i) refl
      where
        by : (o : Option ℕ) → enclosing_block ss i ≡ o → IsLast (suc i)
        by None g k q = absurd (some-none k (enclosing_choice ss (suc i)) (ap last_choice (closed-none i s h e g)) q)
        by (Some m) g k q = last-closes i m (begins m) (begins-here i s Closes h e) refl (enclosing-last ss i m l g) (closed i m s l h e g) ih k q

    pub choice-last : (i k : ℕ) → i ≤ length ss → enclosing_choice ss i ≡ Some k → suc k ≡ choice_number ss i
    choice-last zero k l h = absurd cc
    choice-last (suc i) k l h =
        let s = there ss i (omega (arith, l)) in
        last-by i (s.0) (bracket (s.0)) (omega (arith, l)) (s.1) refl (λ j e. choice-last i j (omega (arith, l)) e) k h

    -- Whether a choice is open behind a line.
    module _ (ends : AreBlocksClosed ss) (i : ℕ) (within : i ≤ length ss) where
      abbrev Is : Numbered → Type 0
      Is s = is_some (enclosing_choice ss (suc i)) ≡ turned_choice s (is_some (enclosing_choice ss i))

      stays : (s : Numbered) → slice_get ss i ≡ Some s → bracket s ≡ NoBracket → is_some (enclosing_choice ss (suc i)) ≡ is_some (enclosing_choice ss i)
      stays s h e = ap (λ js. is_some (last_choice js)) (enclosing-no ss i s h e)

      opens-other : (s : Numbered) (b : Block) → slice_get ss i ≡ Some s → bracket s ≡ Opens b → is_block block.Choice (Some b) ≡ false →
          is_some (enclosing_choice ss (suc i)) ≡ is_some (enclosing_choice ss i)
      opens-other s b h e n = ap is_some (in-other (suc i) i (enclosing-opens ss i s b h e) (begins-here i s (Opens b) h e ∙ n))

      closes-by : (s : Numbered) (b : Block) → slice_get ss i ≡ Some s → bracket s ≡ Closes → (w : IsWithin ss i b) → (c : Bool) → is_block block.Choice (Some b) ≡ c →
          is_some (enclosing_choice ss (suc i)) ≡ cond c false (is_some (enclosing_choice ss i))
      closes-by s b h e w true t =
          let k = w.0 in
          let here : begins (w.0) ≡ true = ap (is_block block.Choice) (w.2) ∙ t in
          ap (λ js. is_some (last_choice js)) (closed i (w.0) s within h e (w.1)) ∙ ap is_some (choice-outside (w.0) here)
      closes-by s b h e w false t =
          let here : begins (w.0) ≡ false = ap (is_block block.Choice) (w.2) ∙ t in
          ap (λ js. is_some (last_choice js)) (closed i (w.0) s within h e (w.1)) ∙ ap is_some (sym (in-other i (w.0) (enclosing-last ss i (w.0) within (w.1)) here))

      pub choice-turned : (s : Numbered) → slice_get ss i ≡ Some s → Is s
      choice-turned (IfLine e) h = opens-other (IfLine e) block.If h refl refl
      choice-turned (MenuLine t) h = opens-other (MenuLine t) block.Menu h refl refl
      choice-turned ChoiceLine h = ap is_some (in-choice (suc i) i (enclosing-opens ss i ChoiceLine block.Choice h refl) (begins-here i ChoiceLine (Opens block.Choice) h refl))
      choice-turned EndIfLine h = closes-by EndIfLine block.If h refl (ends i EndIfLine block.If h refl) false refl
      choice-turned EndMenuLine h = closes-by EndMenuLine block.Menu h refl (ends i EndMenuLine block.Menu h refl) false refl
      choice-turned EndChoiceLine h = closes-by EndChoiceLine block.Choice h refl (ends i EndChoiceLine block.Choice h refl) true refl
      choice-turned _ h = stays _ h refl
