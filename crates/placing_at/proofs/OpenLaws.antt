-- With the roles of a mask taken from every user's mask, names, kinds and contexts are what they were, and of each node's candidates the other roles are left.
use Prim.Native.Nat.{ℕ, zero, suc}
use mathlib.Core.Path.{◌≡◌, refl, sym, ap, ap₂, fun_ext, ◌∙◌}
use mathlib.Core.Bool.{Bool, true, false, cond}
use mathlib.Core.List.{List, [], ◌∷◌, map}
use lib.Bits.{bit_and}
use lib.Dec.{eqb}
use lib.ListN.{get_or, length-map}
use Rattle.masks.specs.Mask.{minus, with}
use Rattle.masks.specs.declared.ChannelKind.{ChannelKind}
use Rattle.masks.proofs.Minus.{none_minus, minus_none, and_minus}
use Rattle.format.specs.Contents.{Contents, item}
use Rattle.format.specs.declared.Verdict.{Verdict}
use Rattle.format.specs.Answers.{refused}
use Rattle.format.specs.declared.Node.{Node}
use Rattle.rules.specs.declared.Way.{Way}
use Rattle.rules.specs.declared.Way.TheVariants.{Sends, Receives}
use Rattle.rules.specs.Schema.{Schema, schema_of, permits, permitting_to, permitting}
use Rattle.rules.specs.Names.{named, kind_of, mine}
use Rattle.rules.specs.Rules.{Context, names_fit, kinds_fit, wrong, child_of, waiting_after}
use Rattle.rules.specs.Checking.{reached, openings, reached_in, first_by, rightly, names_answer}
use Rattle.rules.specs.Candidates.{candidates, candidates_in}
use Rattle.placing_at.specs.PlaceAt.{open_contents}

module _ (s : ℕ) where
  -- what the rules ask then
  abbrev schema_with : Schema → ℕ → (ℕ → ℕ) → Schema
  schema_with D users assigned = record {
    users = users;
    roles = D.roles;
    kinds = D.kinds;
    channels = D.channels;
    assigned = assigned;
    grants = D.grants;
    carries = D.carries;
    owner = D.owner;
    kind = D.kind;
  }

  abbrev pub open_schema : Schema → Schema
  open_schema D = schema_with D D.users (λ u. minus (D.assigned u) s)

  pub get_minus : (us : List ℕ) (n : ℕ) → get_or (map (λ m. minus m s) us) n 0 ≡ minus (get_or us n 0) s
  get_minus [] n = sym (none_minus s)
  get_minus (m ∷ us) zero = refl
  get_minus (m ∷ us) (suc n) = get_minus us n

  pub item_minus : (us : List ℕ) (u : ℕ) → item 0 (map (λ m. minus m s) us) u ≡ minus (item 0 us u) s
  unfolding item
  item_minus us zero = sym (none_minus s)
  item_minus us (suc n) = get_minus us n

  pub open_schema_lem : (C : Contents) → schema_of (open_contents s C) ≡ open_schema (schema_of C)
  open_schema_lem C = ap₂ (schema_with (schema_of C)) (length-map C.users (λ m. minus m s)) (fun_ext (item_minus C.users))

  module _ (D : Schema) where
    -- names and kinds, and what is left to a child
    pub wrong_same : (c : Context) (n : Node) → wrong (open_schema D) c n ≡ wrong D c n
    unfolding wrong names_fit kinds_fit named kind_of mine
    wrong_same c n = refl

    pub child_same : (c : Context) (n : Node) → child_of (open_schema D) c n ≡ child_of D c n
    unfolding child_of kind_of
    child_same c n = refl

    pub reached_same : (ns : List Node) (st : List Context) → reached (open_schema D) ns st ≡ reached D ns st
    unfolding reached child_of kind_of
    reached_same [] st = refl
    reached_same (n ∷ ns) [] = refl
    reached_same (n ∷ ns) (c ∷ st) = ap (λ (l : List (Context × Node)). (c, n) ∷ l) (reached_same ns (waiting_after D c n st))

    rightly_same : (rs : List (Context × Node)) → rightly (open_schema D) rs ≡ rightly D rs
    unfolding rightly wrong names_fit kinds_fit named kind_of mine
    rightly_same [] = refl
    rightly_same (r ∷ rs) = ap (λ (l : List (Context × Node)). cond (eqb (wrong D r.0 r.1) 0) (r ∷ l) []) (rightly_same rs)

    first-same : (i : ℕ) (rs : List (Context × Node)) → first_by (wrong (open_schema D)) i rs ≡ first_by (wrong D) i rs
    unfolding first_by wrong names_fit kinds_fit named kind_of mine
    first-same i [] = refl
    first-same i (r ∷ rs) = ap (λ (v : Verdict). cond (eqb (wrong D r.0 r.1) 0) v (refused (wrong D r.0 r.1) i)) (first-same (suc i) rs)

    -- grants
    permitting_to_lem : (w : Way) (k : ChannelKind) (n : ℕ) → permitting_to (open_schema D) w k n ≡ permitting_to D w k n
    unfolding permitting_to permits
    permitting_to_lem w k zero = refl
    permitting_to_lem w k (suc n) = ap (λ (m : ℕ). cond (permits D w (record { 0 = suc n }) k) (with m (suc n)) m) (permitting_to_lem w k n)

    pub permitting_same : (w : Way) (k : ℕ) → permitting (open_schema D) w k ≡ permitting D w k
    permitting_same w k = permitting_to_lem w (record { 0 = k }) D.roles

    candidates_minus : (c : Context) (n : Node) → candidates (open_schema D) c n ≡ minus (candidates D c n) s
    unfolding candidates kind_of
    candidates_minus c n = go (eqb n.tag 5) (eqb n.tag 6)
      where
        those : Way → ℕ
        those w = bit_and (D.assigned c.user) (permitting D w (kind_of D c.vars n.f1))

        left : (w : Way) → bit_and (minus (D.assigned c.user) s) (permitting (open_schema D) w (kind_of D c.vars n.f1)) ≡ minus (those w) s
        left w = ap (bit_and (minus (D.assigned c.user) s)) (permitting_same w (kind_of D c.vars n.f1)) ∙ and_minus (D.assigned c.user) (permitting D w (kind_of D c.vars n.f1)) s

        go : (p q : Bool)
            → cond p (bit_and (minus (D.assigned c.user) s) (permitting (open_schema D) Receives (kind_of D c.vars n.f1)))
            (cond q (bit_and (minus (D.assigned c.user) s) (permitting (open_schema D) Sends (kind_of D c.vars n.f1))) (minus (D.assigned c.user) s))
            ≡ minus (cond p (those Receives) (cond q (those Sends) (D.assigned c.user))) s
        go true q = left Receives
        go false true = left Sends
        go false false = refl

    candidates_map : (rs : List (Context × Node))
        → map (λ (r : Context × Node). candidates (open_schema D) r.0 r.1) rs ≡ map (λ m. minus m s) (map (λ (r : Context × Node). candidates D r.0 r.1) rs)
    candidates_map [] = refl
    candidates_map (r ∷ rs) = ap₂ ◌∷◌ (candidates_minus r.0 r.1) (candidates_map rs)

  module _ (C : Contents) where
    pub open_reached : reached_in (open_contents s C) ≡ reached_in C
    open_reached = ap (λ (D : Schema). reached D C.nodes (openings C)) (open_schema_lem C) ∙ reached_same (schema_of C) C.nodes (openings C)

    -- 9 and 10 find what they found
    pub open_names : names_answer (open_contents s C) ≡ names_answer C
    unfolding names_answer
    open_names =
        ap₂ (λ (D : Schema) (rs : List (Context × Node)). first_by (wrong D) 1 rs) (open_schema_lem C) open_reached ∙ first-same (schema_of C) 1 (reached_in C)

    pub open_candidates : candidates_in (open_contents s C) ≡ map (λ m. minus m s) (candidates_in C)
    unfolding candidates_in
    open_candidates =
        ap₂ (λ (D : Schema) (rs : List (Context × Node)). map (λ (r : Context × Node). candidates D r.0 r.1) (rightly D rs)) (open_schema_lem C) open_reached
        ∙ ap (map (λ (r : Context × Node). candidates (open_schema (schema_of C)) r.0 r.1)) (rightly_same (schema_of C) (reached_in C))
        ∙ candidates_map (schema_of C) (rightly (schema_of C) (reached_in C))

-- with no role taken nothing changes
pub open_none : (C : Contents) → open_contents 0 C ≡ C
open_none C = ap (λ (us : List ℕ). record { users = us; roles = C.roles; juniors = C.juniors; kinds = C.kinds; channels = C.channels; sessions = C.sessions; nodes = C.nodes }) (same C.users)
  where
    same : (us : List ℕ) → map (λ m. minus m 0) us ≡ us
    same [] = refl
    same (m ∷ us) = ap₂ ◌∷◌ (minus_none m) (same us)
