-- What is remembered, one statement after another.
use Rattle.std.proofs.{Common.{Bool, Err, List, None, Option, Result, Some, [], ap, append-nil, arith, cond, false, filter, length, length-append, map, option_map, refl, subst, sym, true, ℕ, ◌++◌, ◌+◌, ◌||◌, ◌∙◌, ◌∷◌, ◌≡◌}, Math.ListN.length-map, lemmas.{Grind.flat_map-append, List.{Elements.{filter-append, filter_map-append}, Folds.list_any-append}, Simd.map-map}}
use Rattle.std.specs.{List.{cons_option, flat_map, list_any}, Option.option_or, Prelude.is_some}
use Rattle.kc_language.specs.{Expansion.{Expands, FileContext, Files, ReadSoFar, Refused, Rest, at_root, bracket, bytes_cause, context_of, defined_name, definitions, entry_of, first_log, inside, is_attribute, is_choice_block, is_modules, is_no_attribute, last_of, limit_cause, modules_of, open_blocks, refusal_at, with_file, with_line}, Expressions.{all_mentioned, mention, number_of, symbol}, Lines.unread_lines, Statements.{Cause, ConfigLine, LineContext, Located, Named, Numbered, SourceLine, is_config, names_in_statement, statements}}
use Rattle.kc_expr.specs.Names.{Extends}
use Rattle.kc_expr.proofs.NamesLemmas.{all_mentioned-append, extends_on, mentioned_extends, mentioned_on}
use Rattle.kc_language.specs.declared.statements.EntryKind.TheVariants as entry
use Rattle.kc_entries.specs.{Entries.{IsLastFile, lines_in}, PartsOfExpansion.{defined, last_no_attribute, lines_of, located_numbered, logged, nesting_cause, root_context}, PartsOfStatements.is_entry, StatementViews.statement_view, declared.statement.Statement.Statement}
use Rattle.kc_read.specs.{Expanded.IsNamed, LineReads.IsMade, Progress.{IsBegun, IsEntered, IsFrame, IsMarkedOpened, IsMovedFrame, IsProgress, IsSourcedFrame, IsState, IsTaken, defined_after, entry_after, ids_match, limit_view, open_blocks_after, opener_of, openers}, declared.{frame.Frame.Frame, progress.Progress.Progress}}
use Rattle.kc_read.proofs.{BlockLemmas.{blocks_of_located, located_blocks_push}, ModulesLemmas.{marked_push, modules_of_push}, NameLemmas.{defining_same, match_same, named_if, named_later, named_or, numbers_after}, ShapeLemmas.{effect_by, made_name, made_shape, shape}}
use Rattle.kc_entries.proofs.ListLemmas.{last_of-map, last_of-push, list_any-map, map-push}

abbrev ranked : FileContext → ℕ → Named → Located Named
ranked a n x = record { file = a.file; line = n; statement = x }

pub entry_push : (ss : List Named) (x : Named) → entry_after (entry_of (last_no_attribute ss)) x ≡ entry_of (last_no_attribute (ss ++ x ∷ []))
entry_push ss x = by (is_attribute x) ∙ ap (λ l. entry_of (last_of l)) (sym (filter-append is_no_attribute ss (x ∷ [])))
  where
    by : (b : Bool) → cond b (entry_of (last_no_attribute ss)) (entry_of (Some x)) ≡ entry_of (last_of (filter is_no_attribute ss ++ cond (cond b false true) (x ∷ []) []))
    by true = ap (λ l. entry_of (last_of l)) (sym (append-nil (filter is_no_attribute ss)))
    by false = ap entry_of (sym (last_of-push (filter is_no_attribute ss) x))

pub frame_push : (a : FileContext) (own : List (Located Named)) (f g : Frame) (x : Named) (n : ℕ) → IsFrame a own f → g.file ≡ f.file → g.depth ≡ f.depth →
    g.in_choice ≡ f.in_choice → openers g ≡ open_blocks_after (bracket x) f.file.value.items n (openers f) → g.entry ≡ entry_after f.entry x →
    IsFrame a (with_line own a n x) g
frame_push a own f g x n i e_file e_depth e_choice e_blocks e_entry = record {
  file = ap (λ r. r.value.items) e_file ∙ i.file;
  depth = e_depth ∙ i.depth;
  in_choice = e_choice ∙ i.in_choice;
  blocks = e_blocks ∙ (λ j. open_blocks_after (bracket x) (i.file j) n (i.blocks j)) ∙ sym (located_blocks_push own (ranked a n x));
  entry =
      e_entry ∙ ap (λ z. entry_after z x) i.entry ∙ entry_push (statements own) x
      ∙ ap (λ l. entry_of (last_no_attribute l)) (sym (map-push (λ l. l.statement) own (ranked a n x)));
}

-- no entry goes on behind a `source` line
pub no_entry : (a : FileContext) (own : List (Located Named)) (n : ℕ) (name : List ℕ) →
    entry_of (last_no_attribute (statements (with_line own a n (SourceLine name)))) ≡ entry.Nothing
no_entry a own n name =
    let opener : Located Named = record { file = a.file; line = n; statement = SourceLine name } in
    ap (λ l. entry_of (last_no_attribute l)) (map-push (λ l. l.statement) own opener) ∙ sym (entry_push (statements own) (SourceLine name))

frame_taken : (a : FileContext) (own : List (Located Named)) (f g : Frame) (p q : Progress) (v : Numbered) (x : Named) (n : ℕ) → IsFrame a own f →
    shape v ≡ shape x → IsTaken v n f g p q → IsFrame a (with_line own a n x) g
frame_taken a own f g p q v x n i e t =
    frame_push a own f g x n i t.file t.depth t.in_choice
    (t.blocks ∙ ap (λ b. open_blocks_after b f.file.value.items n (openers f)) (ap (λ z. z.0) e))
    (t.entry ∙ ap (λ b. cond b f.entry (entry_of (Some v))) (ap (λ z. z.1) e) ∙ ap (λ y. cond (is_attribute x) f.entry y) (ap (λ z. z.2) e))

-- the definitions, one statement later
definitions_push : (ss : List Named) (x : Named) → definitions (ss ++ x ∷ []) ≡ definitions ss ++ cons_option (defined_name x) []
definitions_push ss x = filter_map-append defined_name ss (x ∷ [])

pub defined_push : (ss : List Named) (x : Named) → defined_after (defined ss) (defined_name x) ≡ defined (ss ++ x ∷ [])
defined_push ss x =
    by (defined_name x)
    ∙ sym (all_mentioned-append [] (definitions ss) (cons_option (defined_name x) []))
    ∙ ap (all_mentioned []) (sym (definitions_push ss x))
  where
    by : (o : Option (List ℕ)) → defined_after (defined ss) o ≡ all_mentioned (defined ss) (cons_option o [])
    by None = refl
    by (Some n) = refl

last_defined : (ds : List (List ℕ)) (o : Option (List ℕ)) → option_or o (last_of ds) ≡ last_of (ds ++ cons_option o [])
last_defined ds None = ap last_of (sym (append-nil ds))
last_defined ds (Some n) = sym (last_of-push ds n)

last_definition_push : (ss : List Named) (x : Named) → option_or (defined_name x) (last_of (definitions ss)) ≡ last_of (definitions (ss ++ x ∷ []))
last_definition_push ss x = last_defined (definitions ss) (defined_name x) ∙ ap last_of (sym (definitions_push ss x))

-- in the entry of a `config` line some symbol is defined, one statement later
config_defines : (x : Named) → is_config (entry_of (Some x)) ≡ true → is_some (defined_name x) ≡ true
config_defines (ConfigLine n) e = refl
config_defines _ e = absurd cc

entered_push : (own ss : List Named) (x : Named) → (is_config (entry_of (last_no_attribute own)) ≡ true → is_some (last_of (definitions ss)) ≡ true) →
    is_config (entry_of (last_no_attribute (own ++ x ∷ []))) ≡ true → is_some (last_of (definitions (ss ++ x ∷ []))) ≡ true
entered_push own ss x before e =
    ap is_some (sym (last_definition_push ss x)) ∙ by (is_attribute x) (defined_name x) (config_defines x) (subst (λ k. is_config k ≡ true) (sym (entry_push own x)) e)
  where
    by : (b : Bool) (o : Option (List ℕ)) → (is_config (entry_of (Some x)) ≡ true → is_some o ≡ true) → is_config (cond b (entry_of (last_no_attribute own)) (entry_of (Some x))) ≡ true →
        is_some (option_or o (last_of (definitions ss))) ≡ true
    by b (Some n) here f = refl
    by true None here f = before f
    by false None here f = absurd (let g : false ≡ true = here f in cc)

words_push : (ss : List Named) (x : Named) → flat_map names_in_statement ss ++ names_in_statement x ≡ flat_map names_in_statement (ss ++ x ∷ [])
words_push ss x = ap (λ ws. flat_map names_in_statement ss ++ ws) (sym (append-nil (names_in_statement x))) ∙ sym (flat_map-append names_in_statement ss (x ∷ []))

progress_taken : (first : List (List ℕ)) (known names : List (List ℕ)) (a : FileContext) (own : List (Located Named)) (log : ReadSoFar)
    (f g : Frame) (p q : Progress) (s : Statement) (x : Named) (n : ℕ) → IsProgress first known log p → IsFrame a own f →
    IsMade known names s x → IsTaken (statement_view s) n f g p q → (is_modules x ≡ true → is_some (last_of (definitions (statements log.lines))) ≡ true) →
    IsProgress first names (logged log a n x) q
progress_taken first known names a own log f g p q s x n i fr m t begun =
    let ss = statements log.lines in
    let later_names : Extends known names = mentioned_extends known names (names_in_statement x) m.mentions in
    let pushed : statements (log.lines ++ ranked a n x ∷ []) ≡ ss ++ x ∷ [] = map-push (λ l. l.statement) log.lines (ranked a n x) in
    let name : IsNamed names (defined_name (statement_view s)) (defined_name x) = made_name known names s x m in
    let is_mod : is_modules (statement_view s) ≡ is_modules x = ap (λ z. z.3) (made_shape known names s x m) in
    let config_now : IsNamed names p.config (last_of (definitions ss)) = named_later known names p.config (last_of (definitions ss)) later_names i.config in
    let modules_now : IsNamed names p.modules (modules_of ss) = named_later known names p.modules (modules_of ss) later_names i.modules_is in
    record {
      lines = λ later e.
          t.lines
          ∙ (λ j. i.lines later (extends_on known names later later_names e) j ++ record { file = fr.file j; line = n; statement = m.form later e j } ∷ [])
          ∙ sym (map-push (located_numbered (number_of later)) log.lines (ranked a n x));
      mentions = mentioned_on first known names (flat_map names_in_statement ss) (names_in_statement x) i.mentions m.mentions
          ∙ ap (all_mentioned first) (words_push ss x ∙ ap (flat_map names_in_statement) (sym pushed));
      total_lines = t.total_lines ∙ i.total_lines;
      opened = t.opened ∙ i.opened;
      defined_is =
          λ later e.
          t.defined_is
          ∙ numbers_after known names p.defined (defined ss) (defined_name (statement_view s)) (defined_name x) later_names i.defined_is name later e
          ∙ ap (map (λ w. symbol (number_of later w))) (defined_push ss x ∙ ap defined (sym pushed));
      config =
          subst (λ o. IsNamed names o (last_of (definitions (statements (log.lines ++ ranked a n x ∷ []))))) (sym t.config)
          (subst (IsNamed names (option_or (defined_name (statement_view s)) p.config)) (last_definition_push ss x ∙ ap (λ l. last_of (definitions l)) (sym pushed))
          (named_or names (defined_name (statement_view s)) p.config (defined_name x) (last_of (definitions ss)) name config_now));
      modules_is =
          subst (λ o. IsNamed names o (modules_of (statements (log.lines ++ ranked a n x ∷ [])))) (sym (t.modules_is ∙ ap (λ b. option_or p.modules (cond b p.config None)) is_mod))
          (subst (IsNamed names (option_or p.modules (cond (is_modules x) p.config None))) (sym (modules_of_push ss x i.marked) ∙ ap modules_of (sym pushed))
          (named_or names p.modules (cond (is_modules x) p.config None) (modules_of ss) (cond (is_modules x) (last_of (definitions ss)) None) modules_now
          (named_if names (is_modules x) p.config (last_of (definitions ss)) config_now)));
      marked = subst (λ l. is_some (modules_of l) ≡ list_any is_modules l) (sym pushed) (marked_push ss x i.marked begun);
    }

pub state_taken : (first : List (List ℕ)) (known names : List (List ℕ)) (a : FileContext) (own : List (Located Named)) (log : ReadSoFar)
    (f g : Frame) (p q : Progress) (s : Statement) (x : Named) (n : ℕ) → IsState first known a own log p f → IsMade known names s x →
    IsTaken (statement_view s) n f g p q → (is_modules x ≡ true → is_config (entry_of (last_no_attribute (statements own))) ≡ true) →
    IsState first names a (with_line own a n x) (logged log a n x) q g
state_taken first known names a own log f g p q s x n i m t placed = record {
  progress = progress_taken first known names a own log f g p q s x n i.progress i.frame m t (λ e. i.entered (placed e));
  frame = frame_taken a own f g p q (statement_view s) x n i.frame (made_shape known names s x m) t;
  files = ap (λ fs. map (λ f. f.value.items) fs.items) t.open_files ∙ i.files;
  entered = λ e.
      subst (λ l. is_some (last_of (definitions l)) ≡ true) (sym (map-push (λ l. l.statement) log.lines (ranked a n x)))
      (entered_push (statements own) (statements log.lines) x i.entered
      (subst (λ l. is_config (entry_of (last_no_attribute l)) ≡ true) (map-push (λ l. l.statement) own (ranked a n x)) e));
  goes_on = λ e. subst (IsLastFile q.entries) i.frame.file t.last;
}

-- the open blocks of a file
blocks_same : (a : FileContext) (own : List (Located Named)) (f : Frame) → IsFrame a own f → map (λ o. o.block) f.blocks.items ≡ open_blocks (statements own)
blocks_same a own f i = sym (map-map (λ o. o.block) opener_of f.blocks.items) ∙ ap (map (λ o. o.block)) i.blocks ∙ blocks_of_located own

-- the context of the next line
pub context_same : (first : List (List ℕ)) (names : List (List ℕ)) (a : FileContext) (own : List (Located Named)) (log : ReadSoFar)
    (f : Frame) (p : Progress) (c : LineContext) → IsState first names a own log p f → c.entry ≡ f.entry →
    c.own ≡ option_map (λ o. o.block) (last_of f.blocks.items) → c.in_choice ≡ (f.in_choice || list_any (λ o. is_choice_block o.block) f.blocks.items) →
    c.modules ≡ ids_match p.modules p.config → c ≡ context_of a own log
context_same first names a own log f p c i e_entry e_own e_choice e_modules =
    let blocks = blocks_same a own f i.frame in
    let entry_is = e_entry ∙ i.frame.entry in
    let own_is = e_own ∙ sym (last_of-map (λ o. o.block) f.blocks.items) ∙ ap last_of blocks in
    let choice_is = e_choice ∙ ap (λ b. b || list_any (λ o. is_choice_block o.block) f.blocks.items) i.frame.in_choice
    ∙ ap (λ b. list_any is_choice_block a.blocks || b) (sym (list_any-map is_choice_block (λ o. o.block) f.blocks.items) ∙ ap (list_any is_choice_block) blocks) in
    let modules_are = e_modules ∙ match_same names p.modules p.config (modules_of (statements log.lines)) (last_of (definitions (statements log.lines))) i.progress.modules_is i.progress.config in
    λ j. record { entry = entry_is j; own = own_is j; in_choice = choice_is j; modules = modules_are j }

-- inside a file that is sourced
pub state_inside : (first : List (List ℕ)) (names : List (List ℕ)) (a : FileContext) (own : List (Located Named)) (log : ReadSoFar)
    (f g : Frame) (p q : Progress) (name bytes : List ℕ) (total_lines : ℕ) → IsState first names a own log p f → IsSourcedFrame f name g →
    IsEntered name total_lines p q → total_lines ≡ p.total_lines + lines_of bytes → IsState first names (inside a own name) [] (with_file log name bytes) q g
state_inside first names a own log f g p q name bytes total_lines i n t c =
    let blocks = blocks_same a own f i.frame in
    let mapped : length (map (λ o. o.block) f.blocks.items) ≡ length f.blocks.items = simp length-map in
    let many : length f.blocks.items ≡ length (open_blocks (statements own)) = sym mapped ∙ ap length blocks in
    let fr = t.open_files.0 in
    record {
      progress = record {
        lines = λ later e. ap lines_in t.entries ∙ i.progress.lines later e;
        mentions = i.progress.mentions;
        total_lines = t.total_lines_is ∙ c ∙ ap (λ k. k + lines_of bytes) i.progress.total_lines;
        opened = t.opened_is ∙ ap (λ ns. mention ns name) i.progress.opened;
        defined_is = λ later e. t.defined_is ∙ i.progress.defined_is later e;
        config = subst (λ o. IsNamed names o (last_of (definitions (statements log.lines)))) (sym t.config) i.progress.config;
        modules_is = subst (λ o. IsNamed names o (modules_of (statements log.lines))) (sym t.modules_is) i.progress.modules_is;
        marked = i.progress.marked;
      };
      frame = record {
        file = n.file;
        depth = n.depth ∙ ap (λ k. k + length f.blocks.items) i.frame.depth ∙ ap (λ k. length a.blocks + k) many ∙ sym (length-append a.blocks (open_blocks (statements own)));
        in_choice =
            n.in_choice ∙ ap (λ b. b || list_any (λ o. is_choice_block o.block) f.blocks.items) i.frame.in_choice
            ∙ ap (λ b. list_any is_choice_block a.blocks || b) (sym (list_any-map is_choice_block (λ o. o.block) f.blocks.items) ∙ ap (list_any is_choice_block) blocks)
            ∙ sym (list_any-append is_choice_block a.blocks (open_blocks (statements own)));
        blocks = ap (map opener_of) n.blocks;
        entry = n.entry;
      };
      files =
          ap (map (λ f. f.value.items)) t.open_files.2 ∙ map-push (λ f. f.value.items) p.open_files.items fr
          ∙ ap (λ ns. ns ++ fr.value.items ∷ []) i.files ∙ ap (λ w. a.open_files ++ w ∷ []) t.open_files.1;
      entered = λ e. absurd cc;
      goes_on = λ e. absurd cc;
    }

-- the limit that a statement passes
pub effect_same : (first : List (List ℕ)) (known names : List (List ℕ)) (a : FileContext) (own : List (Located Named)) (log : ReadSoFar)
    (f : Frame) (p : Progress) (s : Statement) (x : Named) → IsState first known a own log p f → IsMade known names s x →
    limit_view (statement_view s) f p ≡ limit_cause a own log x
effect_same first known names a own log f p s x i m =
    let blocks = blocks_same a own f i.frame in
    let mapped : length (map (λ o. o.block) f.blocks.items) ≡ length f.blocks.items = simp length-map in
    let many : length f.blocks.items ≡ length (open_blocks (statements own)) = sym mapped ∙ ap length blocks in
    let later_names : Extends known names = mentioned_extends known names (names_in_statement x) m.mentions in
    let defining = defining_same known names p.defined (defined (statements log.lines)) (defined_name (statement_view s)) (defined_name x)
    later_names i.progress.defined_is (made_name known names s x m) in
    let depth : f.depth + length f.blocks.items ≡ length a.blocks + length (open_blocks (statements own)) = ap (λ k. k + length f.blocks.items) i.frame.depth ∙ ap (λ k. length a.blocks + k) many in
    (λ j. option_or (defining j) (nesting_cause (depth j) (ap (λ z. z.0) (made_shape known names s x m) j)))
    ∙ effect_by a own log x

-- behind a marker of another file
pub state_moved : (first : List (List ℕ)) (names : List (List ℕ)) (a : FileContext) (own : List (Located Named)) (log : ReadSoFar)
    (f g : Frame) (p q : Progress) (n : ℕ) (name : List ℕ) → IsState first names a own log p f → IsMovedFrame name f g → IsMarkedOpened name p q →
    IsState first names (record a { file = name }) (with_line own a n (SourceLine name)) (record log { opened = mention log.opened name }) q g
state_moved first names a own log f g p q n name i moved opened =
    let pushed = frame_push a own f (record f { entry = entry.Nothing }) (SourceLine name) n i.frame refl refl refl refl refl in
    let frame : IsFrame (record a { file = name }) (with_line own a n (SourceLine name)) (record f { file = g.file; entry = entry.Nothing }) = record {
      file = moved.file;
      depth = pushed.depth;
      in_choice = pushed.in_choice;
      blocks = pushed.blocks;
      entry = pushed.entry;
    } in
    let progress : IsProgress first names (record log { opened = mention log.opened name }) (record p { opened = q.opened }) = record {
      lines = i.progress.lines;
      mentions = i.progress.mentions;
      total_lines = i.progress.total_lines;
      opened = opened.opened_is ∙ ap (λ ns. mention ns name) i.progress.opened;
      defined_is = i.progress.defined_is;
      config = i.progress.config;
      modules_is = i.progress.modules_is;
      marked = i.progress.marked;
    } in record {
      progress = subst (IsProgress first names (record log { opened = mention log.opened name })) (sym opened.kept) progress;
      frame = subst (IsFrame (record a { file = name }) (with_line own a n (SourceLine name))) (sym moved.kept) frame;
      files = ap (λ x. map (λ f. f.value.items) x.open_files.items) opened.kept ∙ i.files;
      entered = λ e. absurd (let none : is_config entry.Nothing ≡ true = subst (λ k. is_config k ≡ true) (no_entry a own n name) e in cc);
      goes_on = λ e. absurd (let none : is_entry entry.Nothing ≡ true = subst (λ k. is_entry k ≡ true) (no_entry a own n name) e in cc);
    }

zero-add : (n : ℕ) → 0 + n ≡ n
zero-add n = omega arith

-- as the root file is opened
pub state_begun : (files : Files) (names : List (List ℕ)) (root bytes : List ℕ) (total_lines : ℕ) (f : Frame) (p : Progress) →
    IsBegun root files.flat total_lines f p → total_lines ≡ 0 + lines_of bytes → IsState names names (root_context root) [] (first_log files root bytes) p f
state_begun files names root bytes total_lines f p b c = record {
  progress = record {
    lines = λ later e. b.lines;
    mentions = refl;
    total_lines = b.total_lines_is ∙ c ∙ zero-add (lines_of bytes);
    opened = b.opened_is;
    defined_is = λ later e. b.defined_is;
    config = subst (λ o. IsNamed names o None) (sym b.config) tt;
    modules_is = subst (λ o. IsNamed names o None) (sym b.modules_is) tt;
    marked = refl;
  };
  frame = record {
    file = b.file;
    depth = b.depth;
    in_choice = b.in_choice;
    blocks = ap (map opener_of) b.blocks;
    entry = b.entry;
  };
  files = b.open_files;
  entered = λ e. absurd cc;
  goes_on = λ e. absurd cc;
}

pub expands_read : (files : Files) (root bytes : List ℕ) (r : Result ReadSoFar Refused) → bytes_cause root 0 (files.bytes root) ≡ None → files.bytes root ≡ Some bytes →
    Rest files (at_root files root bytes) r → Expands files root r
expands_read files root bytes r allowed found rest = rw allowed (bytes, found, rest)

pub expands_refused : (files : Files) (root : List ℕ) (why : Cause) (e : Refused) → bytes_cause root 0 (files.bytes root) ≡ Some why → e ≡ refusal_at why root 0 → Expands files root (Err e)
expands_refused files root why e bad is = rw bad (ap Err is)
