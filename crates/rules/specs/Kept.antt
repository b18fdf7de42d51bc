-- What the passes over the nodes keep: tables of grants and of names, and the contexts that wait, each as numbers in an array.
use Rattle.std.specs.Prelude.{ℕ, zero, suc, ◌+◌, ◌*◌, ◌-◌, ◌/◌, ◌%◌, ◌≤◌, ◌<◌, ◌≡◌, Bool, true, cond, not, ◌&&◌, ◌||◌, List, [], ◌∷◌, map, eqb, leb, ltb, length, get_or, take, drop}
use Rattle.std.specs.Int.Bits.{bit_and}
use Rattle.masks.specs.Mask.{has, with, without}
use Rattle.format.specs.Answers.{fine, refused}
use Rattle.format.specs.declared.Verdict.{Verdict}
use Rattle.format.specs.Contents.{Contents, item, no_role, no_channel, no_session, in_count}
use Rattle.format.specs.Stacks.{stacked}
use Rattle.format.specs.declared.Role.{Role}
use Rattle.format.specs.declared.Node.{Node}
use Rattle.rules.specs.declared.Way.{Way}
use Rattle.rules.specs.declared.Way.TheVariants.{Sends, Receives}
use Rattle.rules.specs.declared.Point.{Point}
use Rattle.rules.specs.declared.RuleStep.{RuleStep}
use Rattle.rules.specs.Schema.{Schema, permitting_to, permitting}
use Rattle.rules.specs.Names.{Bound}
use Rattle.rules.specs.Rules.{Context}

-- those of the roles 1 to r that permit a step on the kinds k, k + 1, .. (n of them), a mask each
unfoldable pub grants_to : Schema → Way → ℕ → ℕ → ℕ → List ℕ
grants_to D w r k zero = []
grants_to D w r k (suc n) = permitting_to D w (record { 0 = k }) r ∷ grants_to D w r (suc k) n

abbrev pub grants_from : Schema → Way → ℕ → ℕ → List ℕ
grants_from D w k n = grants_to D w D.roles k n

-- whether a role with its own kinds g and the juniors j joins the lower roles m that permit a step on the kind k: its own record has the kind, or a
-- junior of it is among them
abbrev pub joins : ℕ → ℕ → ℕ → ℕ → Bool
joins g j m k = has g k || not (eqb (bit_and m j) 0)

-- such a mask with the role r where it joins them
abbrev pub joined : ℕ → ℕ → ℕ → ℕ → ℕ → ℕ
joined g j r k m = cond (joins g j m k) (with m r) m

-- and the masks for the kinds k, k + 1, ..
unfoldable pub add_role : ℕ → ℕ → ℕ → ℕ → List ℕ → List ℕ
add_role g j r k [] = []
add_role g j r k (m ∷ ms) = joined g j r k m ∷ add_role g j r (suc k) ms

-- a role's record and its juniors, as the file has them
abbrev pub RoleIn : Contents → ℕ → Role → ℕ → Type 0
RoleIn C r it j = (1 ≤ r) × (r ≤ length C.roles) × (it ≡ item no_role C.roles r) × (j ≡ item 0 C.juniors r)

-- none of the roles 1 to r permits a step on a kind above 32
abbrev pub Beyond : Schema → Way → ℕ → Type 0
Beyond D w r = (k : ℕ) → 32 < k → permitting_to D w (record { 0 = k }) r ≡ 0

-- a table that has for each kind the roles that permit a step on it
abbrev pub Granting : Schema → Way → List ℕ → Type 0
Granting D w l = (k : ℕ) → get_or l k 0 ≡ permitting D w k

-- what an operand names, as one number: its kind in the low word, and above it 0 where it names nothing, 1 where nobody may receive on it, and
-- else 2 and the user who may
abbrev pub kind_in : ℕ → ℕ
kind_in e = e % 65536

abbrev pub owner_in : ℕ → ℕ
owner_in e = e / 65536

abbrev pub entry : ℕ → ℕ → ℕ
entry k o = k + 65536 * o

-- the table of names: below 512 the users 1 to u and the channels 1 to c
abbrev pub is_named_channel : ℕ → ℕ → Bool
is_named_channel c x = ltb 256 x && leb x (256 + c)

abbrev pub kind_to : Schema → ℕ → ℕ → ℕ
kind_to D c x = cond (is_named_channel c x) (D.kind (x - 256)) 0

abbrev pub owner_to : Schema → ℕ → ℕ → ℕ → ℕ
owner_to D u c x = cond (in_count u x) 1 (cond (is_named_channel c x) (D.owner (x - 256) + 2) 0)

abbrev pub NameTable : Schema → ℕ → ℕ → List ℕ → Type 0
NameTable D u c t = (x : ℕ) → x < 512 → (kind_in (get_or t x 0) ≡ kind_to D c x) × (owner_in (get_or t x 0) ≡ owner_to D u c x)

-- and from 512 on the variables bound on a path, in a session of the user u
abbrev pub variable : ℕ → ℕ → Bound
variable u e = record { sort = kind_in e; fresh = eqb (owner_in e) (u + 2) }

unfoldable pub vars_of : ℕ → List ℕ → ℕ → List Bound
vars_of u t b = map (variable u) (take b (drop 512 t))

-- what an operand names, where b variables are bound
abbrev pub look : List ℕ → ℕ → ℕ → ℕ
look t b x = cond (ltb x (512 + b)) (get_or t x 0) 0

abbrev pub context_of : List ℕ → Point → Context
context_of t p = record { user = p.user; mask = p.mask; vars = vars_of p.user t p.bound }

-- a context as one number
abbrev pub packing : Point → ℕ
packing p = p.user + (65536 * p.assigned + (4294967296 * p.mask + 281474976710656 * p.bound))

abbrev pub unpacking : ℕ → Point
unpacking w = record { user = w % 65536; assigned = w / 65536 % 65536; mask = w / 4294967296 % 65536; bound = w / 281474976710656 }

-- the contexts on a stack in an array
abbrev pub waiting : List ℕ → ℕ → List Point
waiting a d = map unpacking (stacked 0 a d)

-- of the contexts that wait none has more variables than the one above it, the top has b at most, and each is as P says
abbrev pub Waits : (Point → Type 0) → ℕ → List Point → Type 0
Waits P b [] = Unit {0}
Waits P b (p ∷ ps) = (p.bound ≤ b) × P p × Waits P p.bound ps

-- 2 more than the user's number is still a word
abbrev pub Ownable : Point → Type 0
Ownable p = p.user < 65534

-- and it has its user's roles
abbrev pub Given : Schema → Point → Type 0
Given D p = (p.assigned ≡ D.assigned p.user) × Ownable p

-- 9 before 10
abbrev pub graded : Bool → Bool → ℕ
graded names kinds = cond names (cond kinds 0 10) 9

abbrev pub something : ℕ → Bool
something e = not (eqb (owner_in e) 0)

-- what a node comes to: the child has the same context, one variable more, or another active set
abbrev pub staying : Point → ℕ → ℕ → ℕ → RuleStep
staying p w b r = record { wrong = w; barred = b; roles = r; binding = 0; child = p }

abbrev pub binding : Point → ℕ → ℕ → ℕ → ℕ → RuleStep
binding p w b r v = record {
  wrong = w;
  barred = b;
  roles = r;
  binding = v;
  child = record { user = p.user; assigned = p.assigned; mask = p.mask; bound = p.bound + 1 };
}

abbrev pub turning : Point → ℕ → ℕ → RuleStep
turning p b m = record {
  wrong = 0;
  barred = b;
  roles = p.assigned;
  binding = 0;
  child = record { user = p.user; assigned = p.assigned; mask = m; bound = p.bound };
}

-- the same tag by tag, from what the operands name
abbrev pub new_step : ℕ → Point → ℕ → RuleStep
new_step kinds p x = binding p (graded (in_count kinds x) true) 0 p.assigned (entry x (p.user + 2))

abbrev pub compare_step : Point → ℕ → ℕ → RuleStep
compare_step p d e = staying p (graded (something d && something e) (eqb (kind_in d) (kind_in e))) 0 p.assigned

abbrev pub receive_step : Schema → Point → ℕ → RuleStep
receive_step D p d =
    binding p (graded (something d) (eqb (owner_in d) (p.user + 2))) (cond (not (eqb (bit_and p.mask (permitting D Receives (kind_in d))) 0)) 0 13)
    (bit_and p.assigned (permitting D Receives (kind_in d)))
    (entry (D.carries (kind_in d)) 1)

abbrev pub send_step : Schema → Point → ℕ → ℕ → RuleStep
send_step D p d e =
    staying p (graded (something d && something e) (ltb 0 (kind_in d) && eqb (kind_in e) (D.carries (kind_in d))))
    (cond (not (eqb (bit_and p.mask (permitting D Sends (kind_in d))) 0)) 0 13)
    (bit_and p.assigned (permitting D Sends (kind_in d)))

abbrev pub on_at : ℕ → Point → ℕ → RuleStep
on_at roles p x = cond (in_count roles x) (turning p (cond (has p.assigned x) 0 11) (with p.mask x)) (staying p 9 0 0)

abbrev pub off_at : ℕ → Point → ℕ → RuleStep
off_at roles p x = cond (in_count roles x) (turning p (cond (has p.mask x) 0 12) (without p.mask x)) (staying p 9 0 0)

-- a node that is no end and no fork
unfoldable pub step_of : Schema → List ℕ → Point → Node → RuleStep
step_of D t p n =
    cond (eqb n.tag 2) (staying p 0 0 p.assigned)
    (cond (eqb n.tag 3) (new_step D.kinds p n.f1)
    (cond (eqb n.tag 4) (compare_step p (look t p.bound n.f1) (look t p.bound n.f2))
    (cond (eqb n.tag 5) (receive_step D p (look t p.bound n.f1))
    (cond (eqb n.tag 6) (send_step D p (look t p.bound n.f1) (look t p.bound n.f2))
    (cond (eqb n.tag 7) (on_at D.roles p n.f1)
    (cond (eqb n.tag 8) (off_at D.roles p n.f1) (staying p (graded (in_count D.roles n.f1) true) 0 p.assigned)))))))

-- a context without its active set, which plays no part in 9 and 10
abbrev pub unmasked : Context → Context
unmasked c = record { user = c.user; mask = 0; vars = c.vars }

-- as 6 and 7 leave it: 2 more than each channel's owner, and than each session's user, is still a word
abbrev pub Owned : Contents → Type 0
Owned C = ((c : ℕ) → (item no_channel C.channels c).owner < 65534) × ((s : ℕ) → (item no_session C.sessions s).user < 65534)

-- a node's refusal as an answer; 0 refuses nothing
abbrev pub answer_at : ℕ → ℕ → Verdict
answer_at n i = cond (eqb n 0) fine (refused n i)
