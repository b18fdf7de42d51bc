use Prim.Native.Nat.{ℕ, ◌+◌, ◌-◌, ◌≤◌, ◌<◌}
use mathlib.Core.Path.{◌≡◌, refl, sym, ap, subst, ◌∙◌}
use mathlib.Core.List.{List, [], ◌∷◌, map}
use native.Mathlib.Omega.{arith}
use lib.ListN.{length, set, length-set}
use Rattle.format.specs.Contents.{contents_at}
use Rattle.format.specs.Answers.{fine, or_else}
use Rattle.format.specs.declared.Verdict.{Verdict}
use Rattle.format.specs.declared.Head.{Head}
use Rattle.format.specs.declared.Node.{Node}
use Rattle.format.specs.Header.{Laid}
use Rattle.format.proofs.ContentsLaws.{users_held, channels_held, nodes_held}
use Rattle.rules.specs.declared.Point.{Point}
use Rattle.rules.specs.declared.RuleStep.{RuleStep}
use Rattle.rules.specs.Schema.{schema_of}
use Rattle.rules.specs.Rules.{Context}
use Rattle.rules.specs.Checking.{openings}
use Rattle.rules.specs.Kept.{NameTable, kind_in, look, step_of, unpacking, context_of, waiting, Waits, Given, answer_at}
use Rattle.rules.proofs.NameLaws.{Held, held_less, named_kept}
use Rattle.rules.proofs.StepLaws.{Right, step_right}
use Rattle.format.proofs.StackLaws.{read_none, read_top, read_push}
use Rattle.rules.proofs.StackLaws.{waits_push, waits_more, contexts_kept, contexts_bare}
use Rattle.rules.proofs.PassLaws.{Left, begins, goes_on, after_step, refuses, runs_out, ends, ends_tree, forks}
use Rattle.rules.proofs.judge.walk.Goals as goal
use Rattle.rules.proofs.judge.walk.Goals.{in-0+else-depth-eq0-2, in-1, in_default+else-step-ne0}

-- what the step tells of the node
right-at : (f : List ℕ) (h : Head) (t : List ℕ) (p : Point) (n : Node) (s : RuleStep) → Laid f h → 512 + p.bound < length t → NameTable (schema_of (contents_at f h)) h.count.users h.count.channels t
    → Held t p.bound → Given (schema_of (contents_at f h)) p → (n.tag ≡ 0 → ⊥) → (n.tag ≡ 1 → ⊥) → n.f1 < 65536
    → (s ≡ step_of (schema_of (contents_at f h)) t p n) × (n.tag ≡ 5 → (schema_of (contents_at f h)).carries (kind_in (look t p.bound n.f1)) < 65536)
    → Right (schema_of (contents_at f h)) t p n s
right-at f h t p n s laid long table held given no-end no-fork small is =
    let D = schema_of (contents_at f h) in
    let users = users_held f h in
    let channels = channels_held f h in
    let named = subst (λ k. NameTable D k D.channels t) (sym users) (subst (λ k. NameTable D h.count.users k t) (sym channels) table) in
    subst (λ (r : RuleStep). Right D t p n r) (sym is.0)
    (step_right D t p n (omega (arith, users, laid.users)) (omega (arith, channels, laid.channels)) named long held given.0 no-end no-fork small is.1)

pub returns-then-depth-eq0 : goal.returns-then-depth-eq0
returns-then-depth-eq0 c =
    let a = c.args in
    let os = c.open_sessions-depth.ensures in
    let stack = c.open_sessions-depth.new.stack in
    let none : [] ≡ openings (contents_at a.file.now a.head) = ap (map (context_of [])) (sym (ap (waiting stack) c.if-depth-eq0.true ∙ read_none 0 unpacking stack)) ∙ os.2 in
    runs_out (contents_at a.file.now a.head) a.roles.now 1 fine a.roles.now (begins (contents_at a.file.now a.head) a.roles.now [] none)

pub loop-n-init : goal.loop-n-init
loop-n-init c =
    let a = c.args in
    let pre = c.requires in
    let os = c.open_sessions-depth.ensures in
    let stack = c.open_sessions-depth.new.stack in
    let r = c.open_sessions-depth.result in
    let p = c.unpacked-here.result in
    let D = schema_of (contents_at a.file.now a.head) in
    let pos : 0 < r = omega arith in
    let top : waiting stack r ≡ p ∷ waiting stack (r - 1) = read_top 0 unpacking stack r pos ∙ ap (λ (q : Point). q ∷ waiting stack (r - 1)) (sym c.unpacked-here.ensures) in
    let w : Waits (Given D) 0 (p ∷ waiting stack (r - 1)) = subst (λ (ps : List Point). Waits (Given D) 0 ps) top os.1 in
    let st : context_of a.names.now p ∷ map (context_of a.names.now) (waiting stack (r - 1)) ≡ openings (contents_at a.file.now a.head) =
    ap (map (context_of a.names.now)) (sym top) ∙ contexts_bare (Given D) a.names.now (waiting stack r) os.1 ∙ os.2 in (
      refl,
      refl,
      pre.7,
      omega (arith, os.0),
      omega (arith, w.0),
      w.1,
      pre.5,
      (λ j low high. let no : ⊥ = omega (arith, low, high, w.0) in absurd no),
      w.2,
      begins (contents_at a.file.now a.head) a.roles.now _ st,
    )

pub returns-then-depth-eq0-2 : goal.returns-then-depth-eq0-2
returns-then-depth-eq0-2 c =
    let a = c.args in
    let l = c.loop-n in
    let n = c.node-it in
    let st : map (context_of l.names) (waiting l.stack l.depth) ≡ [] = ap (λ d. map (context_of l.names) (waiting l.stack d)) c.if-depth-eq0-2.true ∙ ap (map (context_of l.names)) (read_none 0 unpacking l.stack) in
    let left = ends_tree (contents_at a.file.now a.head) a.roles.now (l.n + 1) (context_of l.names l.here) _ l.first l.roles l.here.assigned n.result (omega arith) (omega (arith, nodes_held a.file.now a.head, c.loop-n-test.true)) n.ensures c.in-0.is l.invariant.5.0 l.invariant.9 in
    let over = runs_out (contents_at a.file.now a.head) a.roles.now (l.n + 1 + 1) l.first (set l.roles (l.n + 1) l.here.assigned) (subst (λ (x : List Context). Left (contents_at a.file.now a.head) a.roles.now (l.n + 1 + 1) x l.first (set l.roles (l.n + 1) l.here.assigned)) st left) in
    (over.0, ap (λ j. set l.roles j l.here.assigned) c.from.ensures ∙ over.1)

pub returns-then-step-ne0 : goal.returns-then-step-ne0
returns-then-step-ne0 c =
    let a = c.args in
    let l = c.loop-n in
    let n = c.node-it in
    let s = c.step_at-step.result in
    let right = right-at a.file.now a.head l.names l.here n.result s c.requires.0 (omega (arith, l.invariant.1, l.invariant.4, c.loop-n-test.true, c.requires.4)) l.invariant.6 l.invariant.7 l.invariant.5 (λ z. omega (arith, z)) (λ z. omega (arith, z)) (omega arith) c.step_at-step.ensures in
    let over = refuses (contents_at a.file.now a.head) a.roles.now (l.n + 1) (context_of l.names l.here) _ l.first l.roles s.wrong n.result (omega arith) (omega (arith, nodes_held a.file.now a.head, c.loop-n-test.true)) n.ensures right.wrong c.if-step-ne0.true l.invariant.9 in
    (ap (λ (x : Verdict). record { names = x; roles = fine }) c.answer_at.ensures ∙ over.0, over.1)

pub loop-n-preserved : goal.loop-n-preserved
loop-n-preserved c =
    let a = c.args in
    let l = c.loop-n in
    let n = c.node-it in
    let D = schema_of (contents_at a.file.now a.head) in
    elim c.match-tag.branch [
      | in-0+else-depth-eq0-2 w ↦
          let p = w.unpacked-here-in-0.result in
          let pos : 0 < l.depth = omega arith in
          let top : waiting l.stack l.depth ≡ p ∷ waiting l.stack (l.depth - 1) =
          read_top 0 unpacking l.stack l.depth pos ∙ ap (λ (q : Point). q ∷ waiting l.stack (l.depth - 1)) (sym w.unpacked-here-in-0.ensures) in
          let under : Waits (Given D) l.here.bound (p ∷ waiting l.stack (l.depth - 1)) = subst (λ (ps : List Point). Waits (Given D) l.here.bound ps) top l.invariant.8 in
          let left = ends_tree (contents_at a.file.now a.head) a.roles.now (l.n + 1) (context_of l.names l.here) _ l.first l.roles l.here.assigned n.result (omega arith) (omega (arith, nodes_held a.file.now a.head, c.loop-n-test.true)) n.ensures w.in-0.is l.invariant.5.0 l.invariant.9 in
          let at : w.from.result ≡ l.n + 1 = w.from.ensures in rw (w.names-is, w.stack-is, w.roles-is, w.depth-is, w.here-is, w.first-is) (
            l.invariant.0,
            l.invariant.1,
            simp length-set l.invariant.2,
            omega (arith, l.invariant.3),
            omega (arith, under.0, l.invariant.4),
            under.1,
            l.invariant.6,
            held_less l.names l.here.bound p.bound under.0 l.invariant.7,
            under.2,
            subst (λ j. Left (contents_at a.file.now a.head) a.roles.now (l.n + 1 + 1) (context_of l.names p ∷ map (context_of l.names) (waiting l.stack (l.depth - 1))) l.first (set l.roles j l.here.assigned)) (sym at)
                (subst (λ (ps : List Point). Left (contents_at a.file.now a.head) a.roles.now (l.n + 1 + 1) (map (context_of l.names) ps) l.first (set l.roles (l.n + 1) l.here.assigned)) top left),
          )
      | in-1 w ↦
          let room : l.depth < length l.stack = omega (arith, l.invariant.3, l.invariant.0, c.loop-n-test.true, c.requires.6) in
          let push : waiting (set l.stack l.depth w.packed.result) (l.depth + 1) ≡ l.here ∷ waiting l.stack l.depth =
          read_push 0 unpacking l.stack l.depth w.packed.result l.here room w.packed.ensures.1 in
          let left = forks (contents_at a.file.now a.head) a.roles.now (l.n + 1) (context_of l.names l.here) (map (context_of l.names) (waiting l.stack l.depth)) l.first l.roles l.here.assigned n.result (omega arith) (omega (arith, nodes_held a.file.now a.head, c.loop-n-test.true)) n.ensures w.in-1.is l.invariant.5.0 l.invariant.9 in
          let at : w.from-in-1.result ≡ l.n + 1 = w.from-in-1.ensures in rw (w.names-is, w.stack-is, w.roles-is, w.depth-is, w.here-is, w.first-is) (
            simp length-set l.invariant.0,
            l.invariant.1,
            simp length-set l.invariant.2,
            omega (arith, l.invariant.3),
            omega (arith, l.invariant.4),
            l.invariant.5,
            l.invariant.6,
            l.invariant.7,
            waits_push unpacking (Given D) l.here.bound l.stack l.depth w.packed.result l.here room w.packed.ensures.1 (omega arith) l.invariant.5 l.invariant.8,
            subst (λ j. Left (contents_at a.file.now a.head) a.roles.now (l.n + 1 + 1) (context_of l.names l.here ∷ map (context_of l.names) (waiting (set l.stack l.depth w.packed.result) (l.depth + 1))) l.first (set l.roles j l.here.assigned)) (sym at)
                (subst (λ (ps : List Point). Left (contents_at a.file.now a.head) a.roles.now (l.n + 1 + 1) (context_of l.names l.here ∷ map (context_of l.names) ps) l.first (set l.roles (l.n + 1) l.here.assigned)) (sym push) left),
          )
      | in_default+else-step-ne0 w ↦
          let s = w.step_at-step.result in
          let right = right-at a.file.now a.head l.names l.here n.result s c.requires.0 (omega (arith, l.invariant.1, l.invariant.4, c.loop-n-test.true, c.requires.4)) l.invariant.6 l.invariant.7 l.invariant.5 (λ z. omega (arith, z)) (λ z. omega (arith, z)) (omega arith) w.step_at-step.ensures in
          let good = w.if-step-ne0.false in
          let goes = right.goes good in
          let at : w.from-in_default.result ≡ l.n + 1 = w.from-in_default.ensures in
          let to : 512 + w.from-in_default-2.result ≡ 512 + l.here.bound = ap (λ k. 512 + k) w.from-in_default-2.ensures in
          let same : l.here.bound ≤ l.here.bound = omega arith in
          let rest = contexts_kept (Given D) l.names l.here.bound s.binding l.here.bound (waiting l.stack l.depth) same l.invariant.8 in
          let next = after_step D (context_of l.names l.here) n.result (map (context_of l.names) (waiting l.stack l.depth)) (λ z. omega (arith, z)) (λ z. omega (arith, z)) goes.child rest in
          let first : w.or_else-first.result ≡ or_else l.first (answer_at s.barred (l.n + 1)) = w.or_else-first.ensures ∙ ap (or_else l.first) w.answer_at-in_default.ensures in
          let left = goes_on (contents_at a.file.now a.head) a.roles.now (l.n + 1) (context_of l.names l.here) (map (context_of l.names) (waiting l.stack l.depth)) _ l.first l.roles s.barred s.roles n.result (omega arith) (omega (arith, nodes_held a.file.now a.head, c.loop-n-test.true)) n.ensures
          (sym right.wrong ∙ good) goes.barred goes.roles next l.invariant.9 in
          rw (w.names-is, w.stack-is, w.roles-is, w.depth-is, w.here-is, w.first-is, to) (
            l.invariant.0,
            length-set l.names (512 + l.here.bound) _ ∙ l.invariant.1,
            length-set l.roles w.from-in_default.result _ ∙ l.invariant.2,
            omega (arith, l.invariant.3),
            omega (arith, l.invariant.4, goes.most),
            (goes.assigned ∙ l.invariant.5.0 ∙ ap D.assigned (sym goes.user), omega (arith, goes.user, l.invariant.5.1)),
            named_kept D a.head.count.users a.head.count.channels l.names l.here.bound s.binding l.invariant.6,
            goes.held,
            waits_more (Given D) l.here.bound s.child.bound (waiting l.stack l.depth) goes.least l.invariant.8,
            rw (at, first) left,
          )
    ]

pub returns : goal.returns
returns c =
    let a = c.args in
    let l = c.loop-n in
    ends (contents_at a.file.now a.head) a.roles.now (l.n + 1) _ l.first l.roles (omega (arith, nodes_held a.file.now a.head, c.loop-n-test.false)) l.invariant.9
