-- What is said of either answer.
use Rattle.std.specs.Prelude.{Vec, ℕ}
use Rattle.std.specs.Global.{Global}
use Rattle.zx_flow.specs.Flows.{FlowTable}
use Rattle.flow_find.specs.declared.search.Found.{Found}
use Rattle.flow_find.specs.declared.search.Found.TheVariants.{Flow, NoFlow}

-- where a flow was found
abbrev pub IfFlow : Found → (FlowTable → Type 0) → Type 0
IfFlow (Flow table) P = P table
IfFlow (NoFlow left) P = Unit {0}

-- where there is none
abbrev pub IfNoFlow : Found → (Vec ℕ Global → Type 0) → Type 0
IfNoFlow (Flow table) P = Unit {0}
IfNoFlow (NoFlow left) P = P left
