-- For a file that 1 to 10 let through a rival that is asked for rules 5 and 6 alone obeys every rule of the check: its other steps are the file's.
use Prim.Native.Nat.{ℕ, ◌-◌, ◌≤◌, ◌<◌}
use mathlib.Core.Path.{◌≡◌, sym, ◌∙◌, subst}
use mathlib.Core.Logic.{◌↔◌}
use mathlib.Core.Bool.{true, false}
use mathlib.Core.List.{List, [], ◌∷◌, map}
use lib.ListN.{length, get_or}
use Rattle.masks.specs.Mask.{has, with, without, Within}
use Rattle.masks.proofs.Bounds.{within_iff, within_with, within_without}
use Rattle.format.specs.Answers.{fine}
use Rattle.format.proofs.ContentsLaws.{item_get}
use Rattle.rules.specs.Schema.{Schema}
use Rattle.rules.specs.Names.{Bound}
use Rattle.checking.specs.Check.{reading_names}
use Rattle.placing.specs.Placing.{no_place, placing}
use Rattle.reading_exact.specs.Lists.{All}
use Rattle.reading_exact.specs.Tree.{Tree, end, fork, step, switch, repeat, new, compare, receive, send, on, off}
use Rattle.reading_exact.specs.File.{Routine, File, InCount, WellFormed, ReadsAs}
use Rattle.reading_exact.proofs.AllLaws.{all_map}
use Rattle.reading_exact.proofs.Exact.{one_read}
use Rattle.reading_exact.proofs.FileContents.{trees_of}
use Rattle.checking_exact.specs.Tables.{schema_for}
use Rattle.checking_exact.specs.Typing.{with_variable, Typed, WellKinded}
use Rattle.checking_exact.specs.Typing.{Kinded, k-end, k_fork, k_repeat, k_new, k_compare, k_receive, k_send, k_switch}
use Rattle.checking_exact.specs.Typing.{ByRoles, r_end, r_fork, r_repeat, r_new, r_compare, r_receive, r_send, r_on, r_off}
use Rattle.checking_exact.proofs.OperandKinds.{Ranged, kind_at_lem}
use Rattle.checking_exact.proofs.FileRules.{ranged}
use Rattle.placing_exact.specs.Placement.{plain, on_steps_of, grafted, Placement, PlacementByRoles}
use Rattle.placing_exact.specs.Promised.{Unrefused}
use Rattle.placing_exact.proofs.SoundSessions.{roles_fit}
use Rattle.placing_exact.proofs.PlacingExact.{named_file, placed_exactly, fifteen_exactly, placed_well}

-- on and off keep the active set within the user's roles
on_within : (m all r : ℕ) → Within m all → has all r ≡ true → Within (with m r) all
on_within m all r w e = (within_iff (with m r) all).0 (within_with m all r ((within_iff m all).1 w) e)

off_within : (m all r : ℕ) → Within m all → Within (without m r) all
off_within m all r w = (within_iff (without m r) all).0 (within_without m all r ((within_iff m all).1 w))

-- what 1 to 10 leave of a session: its user's roles are in count, its starting roles are the user's, and its names and kinds are right
record Seated (D : Schema) (s : Routine) : Type 0 where
  fits : (r : ℕ) → has (D.assigned s.user) r ≡ true → InCount D.roles r
  starts : Within s.mask (D.assigned s.user)
  kinded : Kinded D s.user [] s.tree

module _ (D : Schema) (R : Ranged D) where
  module _ (u : ℕ) (fits : (r : ℕ) → has (D.assigned u) r ≡ true → InCount D.roles r) where
    -- a tree by rules 5 and 6 whose names and kinds are right when each on and off is replaced by its child
    kinded_whole : (vs : List Bound) (m : ℕ) (t : Tree) → Kinded D u vs (plain t) → ByRoles D u vs m t → Within m (D.assigned u) → Kinded D u vs t
    unfolding plain
    kinded_whole vs m end k-end r_end w = k-end
    kinded_whole vs m (fork x y) (k_fork h i) (r_fork p q) w = k_fork (kinded_whole vs m x h p w) (kinded_whole vs m y i q w)
    kinded_whole vs m (step repeat t) (k_repeat h) (r_repeat p) w = k_repeat (kinded_whole vs m t h p w)
    kinded_whole vs m (step (new k) t) (k_new n h) (r_new p) w = k_new n (kinded_whole (with_variable vs k true) m t h p w)
    kinded_whole vs m (step (compare a b) t) (k_compare k c d h) (r_compare p) w = k_compare k c d (kinded_whole vs m t h p w)
    kinded_whole vs m (step (receive c) t) (k_receive k a o h) (r_receive j b z p) w =
        let e : j ≡ k = sym (kind_at_lem D R vs c j b) ∙ kind_at_lem D R vs c k a in
        k_receive k a o (kinded_whole (with_variable vs (D.carries k) false) m t h (subst (λ (i : ℕ). ByRoles D u (with_variable vs (D.carries i) false) m t) e p) w)
    kinded_whole vs m (step (send c v) t) (k_send k a l o h) (r_send j b z p) w = k_send k a l o (kinded_whole vs m t h p w)
    kinded_whole vs m (switch on r t) h (r_on e p) w = k_switch (fits r e) (kinded_whole vs (with m r) t h p (on_within m (D.assigned u) r w e))
    kinded_whole vs m (switch off r t) h (r_off e p) w = k_switch (fits r (w r e)) (kinded_whole vs (without m r) t h p (off_within m (D.assigned u) r w))

  -- every session of a rival
  sessions_typed : (ss : List Routine) (ts : List Tree) → All (Seated D) ss → map plain ts ≡ trees_of ss
      → All (λ (s : Routine). ByRoles D s.user [] s.mask s.tree) (grafted ss ts)
      → All (λ (s : Routine). Typed D s.user [] s.mask s.tree) (grafted ss ts)
  unfolding grafted
  sessions_typed [] ts S e h = tt
  sessions_typed (s ∷ ss) [] S e h = tt
  sessions_typed (s ∷ ss) (t ∷ ts) S e h =
      let same : s.tree ≡ plain t = cc in (
        (kinded_whole s.user S.0.fits [] s.mask t (subst (Kinded D s.user []) same S.0.kinded) h.0 S.0.starts, h.0),
        sessions_typed ss ts S.1 (cc) h.1,
      )

module _ (F : File) (W : WellFormed F) where
  -- a session's starting roles are its user's
  mask_within : (u m : ℕ) → InCount (length F.users) u → Within m (get_or F.users (u - 1) 0) → Within m ((schema_for F).assigned u)
  mask_within u m c w = subst (Within m) (sym (item_get 0 F.users u c.0)) w

  seated : (ss : List Routine) → All (λ (s : Routine). InCount (length F.users) s.user × Within s.mask (get_or F.users (s.user - 1) 0)) ss
      → All (λ (s : Routine). Kinded (schema_for F) s.user [] s.tree) ss → All (Seated (schema_for F)) ss
  seated [] c k = tt
  seated (s ∷ ss) c k = (
    record { fits = roles_fit F W s.user c.0.0; starts = mask_within s.user s.mask c.0.0 c.0.1; kinded = k.0 },
    seated ss c.1 k.1,
  )

-- rules 5 and 6 are enough to be a rival
pub rivals_by_roles : (F : File) → WellFormed F → WellKinded F → (ts : List Tree) → Placement F ts ↔ PlacementByRoles F ts
rivals_by_roles F W N ts = (
  λ P. record {
    back = P.back;
    passes = all_map (λ (s : Routine) h. h.1) (grafted F.sessions ts) P.passes;
    holds = P.holds;
  },
  λ P. record {
    back = P.back;
    passes = sessions_typed (schema_for F) (ranged F W) F.sessions ts (seated F W F.sessions W.sessions_fit N) P.back P.passes;
    holds = P.holds;
  },
)

module _ (f : List ℕ) (bytes : All (λ b. b < 256) f) where
  -- of every file that 1 to 10 let through
  pub rivals_all : reading_names f ≡ fine → (F : File) → ReadsAs f F → (ts : List Tree) → Placement F ts ↔ PlacementByRoles F ts
  rivals_all r F e = let (W, N) = named_file f bytes r F e in rivals_by_roles F W N

  module _ (room : ℕ) where
    -- no placement that passes by rules 5 and 6 has fewer on steps than what is placed
    pub fewest_of_all : (placing f room).number ≡ 0 → (F : File) → ReadsAs f F → (ts : List Tree) → PlacementByRoles F ts
        → (placing f room).on_steps ≤ on_steps_of ts
    fewest_of_all placed F e ts P =
        let w = placed_well f bytes room placed in
        let names = ((placed_exactly f bytes room).0 placed).0.names in
        let one : F ≡ w.file = one_read f F w.file e w.reads in
        w.fewest ts (subst (λ (G : File). Placement G ts) one ((rivals_all names F e ts).1 P))

    -- 15: there is no placement that passes by rules 5 and 6
    pub none_at_all : ((p : ℕ) × (placing f room ≡ no_place 15 p))
        ↔ (Unrefused f room × ((F : File) → ReadsAs f F → (ts : List Tree) → PlacementByRoles F ts → ⊥))
    none_at_all = (
      λ h. let (u, n) = (fifteen_exactly f bytes room).0 h in (u, λ F e ts P. n F e ts ((rivals_all u.names F e ts).1 P)),
      λ (u, n). (fifteen_exactly f bytes room).1 (u, λ F e ts P. n F e ts ((rivals_all u.names F e ts).0 P)),
    )
