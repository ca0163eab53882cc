-- The interrupt lines as a byte.
use Rattle.std.proofs.Common.{◌≡◌, ℕ, ◌+◌, ◌*◌, ◌-◌, ◌<◌, ◌≤◌, ◌^◌, Bool, true, false, sym, ap}
use Rattle.std.proofs.Common.{◌∙◌, add-one, arith}
use Rattle.std.specs.Prelude.{if◌then◌else◌}
use Rattle.std.proofs.Math.Nat.{two-pow-succ}
use Rattle.std.proofs.Math.Pow.{pow_mono}
use Rattle.sja_session.specs.Lines.{lines_from}

-- ---- lines, one after another, from the last one on

-- one line more in front of the others
pub one_more : (line : ℕ → Bool) (nodes place rest now : ℕ) (told : Bool) → place < nodes →
    told ≡ line (nodes - 1 - place) → rest ≡ lines_from line (nodes - place) place →
    now ≡ (if told then 1 else 0) + 2 * rest → now ≡ lines_from line (nodes - (place + 1)) (place + 1)
one_more line nodes place rest now told less told_is rest_is now_is =
    let node : nodes - 1 - place ≡ nodes - (place + 1) = omega arith in
    let next : nodes - (place + 1) + 1 ≡ nodes - place = omega arith in
    let first : told ≡ line (nodes - (place + 1)) = told_is ∙ ap line node in
    let others : rest ≡ lines_from line (nodes - (place + 1) + 1) place =
    rest_is ∙ ap (λ k. lines_from line k place) (sym next) in
    now_is ∙ ap (λ b. (if b then 1 else 0) + 2 * rest) first
    ∙ ap (λ r. (if line (nodes - (place + 1)) then 1 else 0) + 2 * r) others
    ∙ ap (lines_from line (nodes - (place + 1))) (sym (add-one place))

-- the first one is that of node 0
pub all_told : (line : ℕ → Bool) (nodes place count lines : ℕ) → nodes ≤ place → place ≤ nodes → nodes ≡ count →
    lines ≡ lines_from line (nodes - place) place → lines ≡ lines_from line 0 count
all_told line nodes place count lines over within all is =
    let none : nodes - place ≡ 0 = omega arith in let e : place ≡ count = omega arith in
    is ∙ ap (λ k. lines_from line k place) none ∙ ap (lines_from line 0) e

-- ---- they are few

bit_of : (b : Bool) → (if b then 1 else 0) ≤ 1
bit_of true = omega arith
bit_of false = omega arith

pub more_few : (place rest now : ℕ) (told : Bool) → rest < 2 ^ place → now ≡ (if told then 1 else 0) + 2 * rest →
    now < 2 ^ (place + 1)
more_few place rest now told few is =
    let b = bit_of told in let p = ap (λ n. 2 ^ n) (add-one place) ∙ two-pow-succ place in
    omega (arith, b, p, few, is)

pub few_of : (nodes place lines : ℕ) → lines < 2 ^ place → place < nodes → nodes ≤ 8 → lines < 128
few_of nodes place lines few less eight =
    let seven : place ≤ 7 = omega arith in let p : 2 ^ place ≤ 2 ^ 7 = pow_mono seven in omega (arith, few, p)
