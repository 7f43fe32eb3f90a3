pub mod Fields
pub mod ParamsLine
pub mod TermsLine
pub mod CrifLine
pub mod FeedFields
