-- What the figures of an accepted record keep to: all that the calculations count on.
-- Assumes nothing.
use Rattle.std.specs.Prelude.{ℕ, ◌*◌, ◌≤◌, ◌≡◌, List, [], ◌∷◌, length}
use Rattle.exact.specs.Ship.{Deadweight, Kind, bulk, gas, tanker, container, refrigerated, combination, vehicle, general, Consumption, recorded, neither, Engine, Auxiliary}
use Rattle.exact.specs.Ship.{rule, table, Method, declared, trial, design_trial, statistical, Hull, Crane, Figures}
use Rattle.exact.specs.Ranges.{Range, engines_at, low, high, Settled, Firm}
use Rattle.exact.specs.Index.{Capacity, sum_P_ME}

pub record Within (lo hi n : ℕ) : Type 0 where
  pub least : lo ≤ n
  pub most : n ≤ hi

-- Both ends within lo–hi, and low at most high.
pub record Ends (lo hi : ℕ) (r : Range) : Type 0 where
  pub least : lo ≤ r.low
  pub rising : r.low ≤ r.high
  pub most : r.high ≤ hi

-- No limiter, or a limit from 100 kW to the low MCR.
pub data Limited (mcr : ℕ) : ℕ → Type 0 where
  no_limiter : Limited mcr 0
  limiter : {limit : ℕ} → Within 100 mcr limit → Limited mcr limit

abbrev pub Measured : Consumption Range → Type 0
Measured (recorded sfc fuel) = Ends 500 4000 sfc
Measured neither = Unit {0}

pub record Rated (e : Engine Range) : Type 0 where
  pub mcr : Ends 100 120000 e.mcr
  pub limit : Limited e.mcr.low e.limit
  pub uses : Measured e.uses

pub data Each {A : Type 0} (P : A → Type 0) : List A → Type 0 where
  no_more : Each P []
  one_more : {x : A} {xs : List A} → P x → Each P xs → Each P (x ∷ xs)

abbrev pub Supplied : Auxiliary → Type 0
Supplied rule = Unit {0}
Supplied (table kW) = Within 1 50000 kW

-- Neither is above 5 times the other.
pub record Near (a b : ℕ) : Type 0 where
  pub first : a ≤ 5 * b
  pub second : b ≤ 5 * a

-- The types that have speed method 3.
abbrev pub ByDesignDraught : Kind → Type 0
ByDesignDraught bulk = Unit {0}
ByDesignDraught tanker = Unit {0}
ByDesignDraught container = Unit {0}
ByDesignDraught gas = ⊥
ByDesignDraught refrigerated = ⊥
ByDesignDraught combination = ⊥
ByDesignDraught vehicle = ⊥
ByDesignDraught general = ⊥

-- A trial's speed and power, where P is the sum of P_ME in hundredths of a kW.
pub record Tried (v : Range) (kW P : ℕ) : Type 0 where
  pub speed : Ends 500 6000 v
  pub power : Within 1 600000 kW
  pub near : Near (100 * kW) P

abbrev pub Sailed : Method Range → Kind → Deadweight → ℕ → Type 0
Sailed (declared speed) kind dwt P = Ends 500 6000 speed
Sailed (trial speed power) kind dwt P = Tried speed power P
Sailed (design_trial speed power tested) kind dwt P = Tried speed power P × Near (100 * tested.tonnes) (Capacity kind dwt) × ByDesignDraught kind
Sailed statistical kind dwt P = Unit {0}

-- The hull of a general cargo ship: her volume is at most length times breadth times draught.
pub record Shaped (h : Hull) : Type 0 where
  pub volume : Within 100 1000000 h.volume
  pub length : Within 1000 50000 h.length
  pub breadth : Within 200 10000 h.breadth
  pub draught : Within 50 4000 h.draught
  pub inside : h.volume * 1000000 ≤ h.length * h.breadth * h.draught

pub record Geared (c : Crane) : Type 0 where
  pub swl : Within 1 10000 c.swl
  pub reach : Within 1 10000 c.reach

-- What 19 leaves of a new ship, whose index is an EEDI: no engine has a limiter, every consumption has a source, and the speed is declared.
abbrev pub Sourced : Consumption Range → Type 0
Sourced (recorded sfc fuel) = Unit {0}
Sourced neither = ⊥

pub record NewEngine (e : Engine Range) : Type 0 where
  pub unlimited : e.limit ≡ 0
  pub uses : Sourced e.uses

pub record NewShip (f : Figures Range) : Type 0 where
  pub engines : Each NewEngine f.engines
  pub auxiliary_uses : Sourced f.auxiliary_uses
  pub speed : Range
  pub method : f.method ≡ declared speed

pub record AcceptedFigures (f : Figures Range) : Type 0 where
  pub deadweight : Within 100 600000 f.ship.deadweight.tonnes
  pub gross : f.ship.kind ≡ vehicle → Within 100 400000 f.ship.gross.gt
  pub cargo : f.ship.kind ≡ bulk → Within 100 1000000 f.ship.cargo
  pub auxiliary : Supplied f.ship.auxiliary
  pub auxiliary_uses : Measured f.auxiliary_uses
  pub count : Within 1 4 (length f.engines)
  pub engines : Each Rated f.engines
  pub power_low : Within 7500 36000000 (sum_P_ME (engines_at low f.engines))
  pub power_high : Within 7500 36000000 (sum_P_ME (engines_at high f.engines))
  pub method : Sailed f.method f.ship.kind f.ship.deadweight (sum_P_ME (engines_at low f.engines))
  pub settled : Settled f.method f.engines
  pub firm : f.ship.kind ≡ general → Firm f.method
  pub lightweight : f.ship.lightweight ≤ 200000
  pub hull : f.ship.kind ≡ general → Shaped f.ship.hull
  pub cranes : Each Geared f.ship.cranes
  pub few : length f.ship.cranes ≤ 8
