-- In a placed file nothing but its own role is active at an on step.
use Prim.Native.Nat.{ℕ, ◌≤◌}
use mathlib.Core.Path.{◌≡◌, refl, sym, ap, ◌∙◌, subst}
use mathlib.Core.Bool.{Bool, true, false, cond, false≢true}
use mathlib.Core.List.{List}
use native.Mathlib.Omega.{arith}
use lib.Dec.{eqb}
use borrow.Author.Tests.{eqb-true, eqb-false, eq-eqb}
use Rattle.masks.specs.Mask.{has, with, without, AtMostOne}
use Rattle.masks.proofs.Laws.{has_none, has_pos, has_with_same, has_with_other, has_without_same, has_without_other}
use Rattle.masks.proofs.Laws.{empty}
use Rattle.format.specs.Answers.{fine}
use Rattle.format.specs.Contents.{Contents, contents_of}
use Rattle.format.specs.declared.Node.{Node}
use Rattle.checking.specs.Check.{checking}
use Rattle.rules.specs.Schema.{Schema, schema_of}
use Rattle.rules.specs.Names.{Bound}
use Rattle.rules.specs.Rules.{Context, child_of}
use Rattle.rules.specs.Checking.{reached, openings, reached_in, first_by}
use Rattle.reading_exact.specs.Lists.{All}
use Rattle.reading_exact.specs.File.{Routine, File, contents_for}
use Rattle.reading_exact.specs.Tree.{Tree, end, fork, step, switch, on, off, repeat, new, compare, receive, send, words}
use Rattle.reading_exact.specs.Refusals.{nth}
use Rattle.reading_exact.proofs.AllLaws.{all_map}
use Rattle.checking_exact.specs.Tables.{schema_for}
use Rattle.checking_exact.specs.Typing.{ByRoles, r_end, r_fork, r_repeat, r_new, r_compare, r_receive, r_send, r_on}
use Rattle.checking_exact.specs.Typing.{r_off}
use Rattle.checking_exact.proofs.ClearTrees.{opening, Clear, all_clear}
use Rattle.checking_exact.proofs.FileRules.{openings_for}
use Rattle.checking_exact.proofs.FirstNode.{all_held}
use Rattle.running_exact.proofs.FileNodes.{tag_low}
use Rattle.running_exact.proofs.RunSafe.{passes_names}
use Rattle.placing_exact.specs.Placement.{Holds}
use Rattle.placing_exact.proofs.HeldRole.{holds_one}
use Rattle.exclusion.proofs.RolesAbove.{there, LoneOns}

-- what else is active at an on step, as a rule of the check's kind
abbrev crowded : Context → Node → ℕ
crowded c n = cond (eqb n.tag 7) (without c.mask n.f1) 0

-- on steps name roles
abbrev pub Named : Tree → Type 0
Named end = Unit {0}
Named (fork a b) = Named a × Named b
Named (step s t) = Named t
Named (switch on r t) = (1 ≤ r) × Named t
Named (switch off r t) = Named t

pub on_names : {D : Schema} {u : ℕ} {vs : List Bound} {m : ℕ} {t : Tree} → ByRoles D u vs m t → Named t
on_names r_end = tt
on_names (r_fork h g) = (on_names h, on_names g)
on_names (r_repeat h) = on_names h
on_names (r_new h) = on_names h
on_names (r_compare h) = on_names h
on_names (r_receive k w p h) = on_names h
on_names (r_send k w p h) = on_names h
on_names {D} {u} (r_on {r = r} a h) = (has_pos (D.assigned u) r a, on_names h)
on_names (r_off a h) = on_names h

-- at most one role below it is no other above it
no_other : (m r : ℕ) → 1 ≤ r → AtMostOne (with m r) → without m r ≡ 0
no_other m r l one = empty (without m r) none
  where
    none : (y : ℕ) → has (without m r) y ≡ false
    none y = go (eqb r y) refl (has m y) refl
      where
        go : (p : Bool) → eqb r y ≡ p → (q : Bool) → has m y ≡ q → has (without m r) y ≡ false
        go true e q d = rw (eqb-true r y e) (has_without_same m y)
        go false e true d =
            absurd (eqb-false r y e (one r y (has_with_same m r l) (has_with_other m r y (eqb-false r y e) ∙ d)))
        go false e false d = has_without_other m r y (eqb-false r y e) ∙ d

module _ (D : Schema) where
  holds_clear : (t : Tree) (c : Context) → Named t → Holds c.mask t → Clear D crowded c t
  unfolding Clear Holds child_of
  holds_clear end c n h = tt
  holds_clear (fork a b) c n h = (holds_clear a c n.0 h.1, holds_clear b c n.1 h.2)
  holds_clear (step repeat t) c n h = (refl, holds_clear t (child_of D c (words 2 0 0)) n h.1)
  holds_clear (step (new k) t) c n h = (refl, holds_clear t (child_of D c (words 3 k 0)) n h.1)
  holds_clear (step (compare a b) t) c n h = (refl, holds_clear t (child_of D c (words 4 a b)) n h.1)
  holds_clear (step (receive x) t) c n h = (refl, holds_clear t (child_of D c (words 5 x 0)) n h.1)
  holds_clear (step (send x v) t) c n h = (refl, holds_clear t (child_of D c (words 6 x v)) n h.1)
  holds_clear (switch on r t) c n h = (
    no_other c.mask r n.0 (holds_one (with c.mask r) t h.1),
    holds_clear t (child_of D c (words 7 r 0)) n.1 h.1,
  )
  holds_clear (switch off r t) c n h = (refl, holds_clear t (child_of D c (words 8 r 0)) n h.1)

-- over a file, whatever its users' masks
abbrev Uncrowded : Contents → Type 0
Uncrowded C = first_by crowded 1 (reached_in C) ≡ fine

-- each session holds at most one role at any moment, and its on steps name roles
abbrev pub HoldsNamed : File → Type 0
HoldsNamed G = All (λ (s : Routine). Named s.tree × Holds s.mask s.tree) G.sessions

uncrowded : (G : File) → HoldsNamed G → Uncrowded (contents_for G)
uncrowded G h =
    ap (λ (st : List Context). first_by crowded 1 (reached (schema_for G) (contents_for G).nodes st)) (openings_for G)
    ∙ (all_clear (schema_for G) crowded (λ c. refl) (λ c j. refl) 1 G.sessions).1
    (all_map (λ s (n, h). holds_clear (schema_for G) s.tree (opening s) n h) G.sessions h)

pub lone_ons : (g : List ℕ) → checking g ≡ fine → (G : File) → contents_of g ≡ contents_for G → HoldsNamed G
    → LoneOns (contents_of g)
lone_ons g passes G whole holds n c h t y w = go (eqb r y) refl
  where
    C : Contents
    C = contents_of g

    r : ℕ
    r = (nth C.nodes n).f1

    clear : crowded c (nth C.nodes n) ≡ 0
    clear =
        all_held (schema_of C) C.nodes (openings C) crowded (tag_low g (passes_names g passes))
        (subst Uncrowded (sym whole) (uncrowded G holds)) n c (h, there C.nodes n (omega (arith, t)))

    none_else : without c.mask r ≡ 0
    none_else = rw (eq-eqb (nth C.nodes n).tag 7 t) at clear

    go : (b : Bool) → eqb r y ≡ b → y ≡ r
    go true e = sym (eqb-true r y e)
    go false e =
        let held : has (without c.mask r) y ≡ true = has_without_other c.mask r y (eqb-false r y e) ∙ w in
        absurd (false≢true (sym (has_none y) ∙ (rw none_else at held)))
