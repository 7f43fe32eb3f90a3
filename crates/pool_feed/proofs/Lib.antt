pub mod ManyFields
pub mod FedLines
pub mod FedAnswers
