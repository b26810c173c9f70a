pub mod ListLemmas
pub mod LimitLemmas
pub mod PlanLemmas
pub mod NamingLemmas
