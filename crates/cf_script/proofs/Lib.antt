pub mod WorkLemmas
pub mod ReportLemmas
pub mod PrintLemmas
pub mod RaceLemmas
